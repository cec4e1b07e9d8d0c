use Rattle.std.proofs.Common.{◌≡◌, ◌+◌, ◌≤◌, ℕ, Bool, true, false, Some, None, position, ap, sym, ◌∙◌, refl, length, get_or, take, min, ◌/◌, arith}
use Rattle.std.specs.Prelude.{◌||◌, IsTrue, nat_lt}
use Rattle.std.proofs.lemmas.Bool.{false≢true}
use Rattle.lo_outside.specs.FaultPlan.{is_due}
use Rattle.lo_outside.specs.Place.{has_name, with_piece}
use Rattle.lo_outside.proofs.SettingBytes.{first_of, no_position}
use Rattle.lo_outside.proofs.Writing.{roomy_set, room_test, spare_of, appended_half, appended_whole, not_missing, not_there, on_err, granted}
use Rattle.lo_outside.proofs.mem_files.MemFilesFiles.append.Goals as goal

pub returns-in_default-clause-failed : goal.returns-in_default-clause-failed
returns-in_default-clause-failed c =
    let none : None ≡ position (has_name c.args.name.now) c.self.inside.files.items = rw (← c.as_bytes.ensures.value, ← c.deref.ensures.value) c.in_default.ensures in
    rw (← c.self.view_is, no_position _ _ none) c.answer.ensures.failed

pub returns-in_default-clause-err : goal.returns-in_default-clause-err
returns-in_default-clause-err c =
    let none : None ≡ position (has_name c.args.name.now) c.self.inside.files.items = rw (← c.as_bytes.ensures.value, ← c.deref.ensures.value) c.in_default.ensures in
    on_err c.answer.result (rw (← c.self.view_is) (λ there. not_there c.self.inside.files.items c.args.name.now none there))

pub invariant_of-self-then-is_err : goal.invariant_of-self-then-is_err
invariant_of-self-then-is_err c =
    let at : Some c.in-Some.i ≡ position (has_name c.args.name.now) c.self.inside.files.items = rw (← c.as_bytes.ensures.value, ← c.deref.ensures.value) c.in-Some.ensures in
    roomy_set c.self.inside.room c.self.inside.files c.self.inside.free c.in-Some.i c.index_mut.result.now c.add.new.self c.self.invariant (first_of c.args.name.now c.self.inside.files.items c.in-Some.i at).1 c.index_mut.ensures.value (ap (λ p. p.named.name) c.add.ensures) (ap (λ p. p.room) c.add.ensures)

pub returns-then-is_err-clause-failed : goal.returns-then-is_err-clause-failed
returns-then-is_err-clause-failed c =
    let at : Some c.in-Some.i ≡ position (has_name c.args.name.now) c.self.inside.files.items = rw (← c.as_bytes.ensures.value, ← c.deref.ensures.value) c.in-Some.ensures in
    let total : length (get_or c.self.inside.files.items c.in-Some.i c.index.result.now).named.file.bytes + c.free-free.result ≡ c.self.inside.room = ap (λ h. length h.named.file.bytes + c.free-free.result) (sym c.index.ensures) ∙ spare_of c.self.inside.files.items c.in-Some.i c.self.inside.room c.free-free.result c.index.result.now c.index.result.now c.args.name.now at c.self.invariant.files_room c.index.ensures c.index.ensures c.free-free.ensures in
    let fails : IsTrue (is_due c.self.inside.plan || nat_lt c.free-free.result (length c.args.piece.now)) = c.answer-2.ensures.failed.0 (sym c.is_err.ensures.value ∙ c.if-is_err.true) in
    rw (← c.self.view_is, room_test c.self.inside.files.items c.in-Some.i c.index.result.now c.args.name.now c.args.piece.now c.self.inside.room c.free-free.result at total) (λ _. fails, λ _. refl)

pub returns-then-is_err-clause-err : goal.returns-then-is_err-clause-err
returns-then-is_err-clause-err c =
    let at : Some c.in-Some.i ≡ position (has_name c.args.name.now) c.self.inside.files.items = rw (← c.as_bytes.ensures.value, ← c.deref.ensures.value) c.in-Some.ensures in
    let total : length c.index_mut.result.now.named.file.bytes + c.free-free.result ≡ c.self.inside.room = spare_of c.self.inside.files.items c.in-Some.i c.self.inside.room c.free-free.result c.index.result.now c.index_mut.result.now c.args.name.now at c.self.invariant.files_room c.index.ensures c.index_mut.ensures.value c.free-free.ensures in
    let fails : IsTrue (is_due c.self.inside.plan || nat_lt c.free-free.result (length c.args.piece.now)) = c.answer-2.ensures.failed.0 (sym c.is_err.ensures.value ∙ c.if-is_err.true) in
    let added : c.add.new.self ≡ with_piece (take (min (length c.args.piece.now / 2) c.free-free.result) c.args.piece.now) c.index_mut.result.now = c.add.ensures ∙ ap (λ n. with_piece (take n c.args.piece.now) c.index_mut.result.now) c.min-n.ensures in
    λ _. rw (← c.self.view_is) (appended_half c.self.inside.files.items _ c.self.inside.room c.free-free.result c.self.inside.plan _ c.in-Some.i c.index_mut.result.now c.add.new.self c.args.name.now c.args.piece.now at c.index_mut.ensures.value total c.answer-2.ensures.counted fails added)

pub returns-then-is_err-clause-missing : goal.returns-then-is_err-clause-missing
returns-then-is_err-clause-missing c =
    let at : Some c.in-Some.i ≡ position (has_name c.args.name.now) c.self.inside.files.items = rw (← c.as_bytes.ensures.value, ← c.deref.ensures.value) c.in-Some.ensures in
    rw (← c.self.view_is) (not_missing c.self.inside.files.items c.in-Some.i c.index.result.now c.args.name.now at)

pub invariant_of-self-2 : goal.invariant_of-self-2
invariant_of-self-2 c =
    let at : Some c.in-Some.i ≡ position (has_name c.args.name.now) c.self.inside.files.items = rw (← c.as_bytes.ensures.value, ← c.deref.ensures.value) c.in-Some.ensures in
    roomy_set c.self.inside.room c.self.inside.files c.self.inside.free c.in-Some.i c.index_mut-2.result.now c.add-2.new.self c.self.invariant (first_of c.args.name.now c.self.inside.files.items c.in-Some.i at).1 c.index_mut-2.ensures.value (ap (λ p. p.named.name) c.add-2.ensures) (ap (λ p. p.room) c.add-2.ensures)

pub returns-clause-failed : goal.returns-clause-failed
returns-clause-failed c =
    let at : Some c.in-Some.i ≡ position (has_name c.args.name.now) c.self.inside.files.items = rw (← c.as_bytes.ensures.value, ← c.deref.ensures.value) c.in-Some.ensures in
    let total : length (get_or c.self.inside.files.items c.in-Some.i c.index.result.now).named.file.bytes + c.free-free.result ≡ c.self.inside.room = ap (λ h. length h.named.file.bytes + c.free-free.result) (sym c.index.ensures) ∙ spare_of c.self.inside.files.items c.in-Some.i c.self.inside.room c.free-free.result c.index.result.now c.index.result.now c.args.name.now at c.self.invariant.files_room c.index.ensures c.index.ensures c.free-free.ensures in
    rw (← c.self.view_is, room_test c.self.inside.files.items c.in-Some.i c.index.result.now c.args.name.now c.args.piece.now c.self.inside.room c.free-free.result at total) (λ e. absurd (false≢true e), λ fails. sym c.if-is_err.false ∙ c.is_err.ensures.value ∙ c.answer-2.ensures.failed.1 fails)

pub returns-clause-ok : goal.returns-clause-ok
returns-clause-ok c =
    let at : Some c.in-Some.i ≡ position (has_name c.args.name.now) c.self.inside.files.items = rw (← c.as_bytes.ensures.value, ← c.deref.ensures.value) c.in-Some.ensures in
    let total : length c.index_mut-2.result.now.named.file.bytes + c.free-free.result ≡ c.self.inside.room = spare_of c.self.inside.files.items c.in-Some.i c.self.inside.room c.free-free.result c.index.result.now c.index_mut-2.result.now c.args.name.now at c.self.invariant.files_room c.index.ensures c.index_mut-2.ensures.value c.free-free.ensures in
    let passes : (is_due c.self.inside.plan || nat_lt c.free-free.result (length c.args.piece.now)) ≡ false = granted (is_due c.self.inside.plan) (nat_lt c.free-free.result (length c.args.piece.now)) (λ fails. sym c.if-is_err.false ∙ c.is_err.ensures.value ∙ c.answer-2.ensures.failed.1 fails) in
    rw (← c.self.view_is) (appended_whole c.self.inside.files.items _ c.self.inside.room c.free-free.result c.self.inside.plan _ c.in-Some.i c.index_mut-2.result.now c.add-2.new.self c.args.name.now c.args.piece.now at c.index_mut-2.ensures.value total c.answer-2.ensures.counted passes c.add-2.ensures)

pub returns-clause-missing : goal.returns-clause-missing
returns-clause-missing c =
    let at : Some c.in-Some.i ≡ position (has_name c.args.name.now) c.self.inside.files.items = rw (← c.as_bytes.ensures.value, ← c.deref.ensures.value) c.in-Some.ensures in
    rw (← c.self.view_is) (not_missing c.self.inside.files.items c.in-Some.i c.index.result.now c.args.name.now at)
