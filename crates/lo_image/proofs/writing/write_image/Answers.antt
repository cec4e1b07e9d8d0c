use Rattle.std.proofs.Common.{◌≡◌, [], sym, subst}
use Rattle.std.specs.Prelude.{IsTrue}
use Rattle.lo_image.specs.Image.{image}
use Rattle.lo_image.specs.Writing.{written, WasGiven, GivesMore, FailsWithin, opening_of}
use Rattle.lo_image.proofs.WritingRules.{is_created, all_stand, front_left, a_front_stands, on_err}
use Rattle.lo_image.proofs.writing.write_image.Goals as goal

pub returns-in_err-put_parts-clause-err : goal.returns-in_err-put_parts-clause-err
returns-in_err-put_parts-clause-err g c =
    let start = g.F.Files.folder c.args.files.now in
    let name = c.args.name.now in
    let mid = written g.F.Files c.create.new.self c.new-buffer.result in
    let same : opening_of c.opening.inside.blocks c.opening.inside.counter c.items-tables.result.now c.items-objects.result.now ≡ c.args.opening.now = rw (c.items-tables.ensures, c.items-objects.ensures) c.opening.view_is in
    let told : IsTrue (g.F.Files.tells c.args.files.now) → IsTrue mid.tells = λ t. subst IsTrue (sym c.in_ok-create.ensures.tells) t in
    let begun : IsTrue (g.F.Files.tells c.args.files.now) → WasGiven start mid name [] = λ t. is_created start mid name (c.in_ok-create.ensures.created t) c.new-buffer.ensures in
    let new = written g.F.Files c.put_parts.new.files c.put_parts.new.buffer in
    let fails : FailsWithin mid new name (image c.args.opening.now) = rw same at c.in_err-put_parts.ensures in
    λ t. on_err c.from_residual-in_err-put_parts.result (front_left start new.folder name (image c.args.opening.now) (fails.leaves (told t) start [] (begun t)))

pub returns-clause-ok : goal.returns-clause-ok
returns-clause-ok g c =
    let start = g.F.Files.folder c.args.files.now in
    let name = c.args.name.now in
    let mid = written g.F.Files c.create.new.self c.new-buffer.result in
    let same : opening_of c.opening.inside.blocks c.opening.inside.counter c.items-tables.result.now c.items-objects.result.now ≡ c.args.opening.now = rw (c.items-tables.ensures, c.items-objects.ensures) c.opening.view_is in
    let told : IsTrue (g.F.Files.tells c.args.files.now) → IsTrue mid.tells = λ t. subst IsTrue (sym c.in_ok-create.ensures.tells) t in
    let begun : IsTrue (g.F.Files.tells c.args.files.now) → WasGiven start mid name [] = λ t. is_created start mid name (c.in_ok-create.ensures.created t) c.new-buffer.ensures in
    let new = written g.F.Files c.put_parts.new.files c.put_parts.new.buffer in
    let end = written g.F.Files c.flush.new.files c.flush.new.buffer in
    let gives : GivesMore mid new name (image c.args.opening.now) = rw same at c.in_ok-put_parts.ensures in
    let all : IsTrue (g.F.Files.tells c.args.files.now) → WasGiven start new name (image c.args.opening.now) = λ t. gives.gives (told t) start [] (begun t) in
    let told_new : IsTrue (g.F.Files.tells c.args.files.now) → IsTrue new.tells = λ t. subst IsTrue (sym gives.tells) (told t) in
    λ t. all_stand start new end name (image c.args.opening.now) c.flush.result (told_new t) (all t) c.flush.ensures.puts c.flush.ensures.empty

pub returns-clause-err : goal.returns-clause-err
returns-clause-err g c =
    let start = g.F.Files.folder c.args.files.now in
    let name = c.args.name.now in
    let mid = written g.F.Files c.create.new.self c.new-buffer.result in
    let same : opening_of c.opening.inside.blocks c.opening.inside.counter c.items-tables.result.now c.items-objects.result.now ≡ c.args.opening.now = rw (c.items-tables.ensures, c.items-objects.ensures) c.opening.view_is in
    let told : IsTrue (g.F.Files.tells c.args.files.now) → IsTrue mid.tells = λ t. subst IsTrue (sym c.in_ok-create.ensures.tells) t in
    let begun : IsTrue (g.F.Files.tells c.args.files.now) → WasGiven start mid name [] = λ t. is_created start mid name (c.in_ok-create.ensures.created t) c.new-buffer.ensures in
    let new = written g.F.Files c.put_parts.new.files c.put_parts.new.buffer in
    let end = written g.F.Files c.flush.new.files c.flush.new.buffer in
    let gives : GivesMore mid new name (image c.args.opening.now) = rw same at c.in_ok-put_parts.ensures in
    let all : IsTrue (g.F.Files.tells c.args.files.now) → WasGiven start new name (image c.args.opening.now) = λ t. gives.gives (told t) start [] (begun t) in
    let told_new : IsTrue (g.F.Files.tells c.args.files.now) → IsTrue new.tells = λ t. subst IsTrue (sym gives.tells) (told t) in
    λ t. a_front_stands start new end name (image c.args.opening.now) c.flush.result (told_new t) (all t) c.flush.ensures.puts
