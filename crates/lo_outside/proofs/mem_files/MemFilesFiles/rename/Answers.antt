use Rattle.std.proofs.Common.{◌≡◌, ◌+◌, ◌≤◌, ℕ, [], ◌∷◌, Bool, true, false, length-append, Some, None, position, ap, sym, ◌∙◌, refl, length, get_or, arith}
use Rattle.std.specs.Prelude.{◌||◌, not, nat_lt, nat_le}
use Rattle.std.specs.List.{remove}
use Rattle.std.proofs.lemmas.Bool.Decides.{nat_tests}
use Rattle.lo_outside.specs.FaultPlan.{is_due}
use Rattle.lo_outside.specs.Place.{has_name, HasRoom}
use Rattle.lo_outside.proofs.SettingBytes.{first_of, at_position, no_position}
use Rattle.lo_outside.proofs.Renaming.{TakesOut, renamed_over, renamed_to_end}
use Rattle.lo_outside.proofs.Writing.{roomy_over, roomy_end, folder_of, granted, looked, counted_move}
use Rattle.lo_outside.proofs.mem_files.MemFilesFiles.rename.Goals as goal

pub returns-in_default-clause-failed : goal.returns-in_default-clause-failed
returns-in_default-clause-failed c =
    let none : None ≡ position (has_name c.args.from.now) c.self.inside.files.items = rw (← c.as_bytes.ensures.value, ← c.deref.ensures.value) c.in_default.ensures in
    rw (← c.self.view_is, no_position _ _ none) c.answer.ensures.failed

pub invariant_of-self-in-Some-position_of : goal.invariant_of-self-in-Some-position_of
invariant_of-self-in-Some-position_of c =
    let at : Some c.in-Some.i ≡ position (has_name c.args.from.now) c.self.inside.files.items = rw (← c.as_bytes.ensures.value, ← c.deref.ensures.value) c.in-Some.ensures in
    let over : Some c.in-Some-position_of.j ≡ position (has_name c.args.to.now) c.remove-place.new.self.items = rw (← c.as_bytes-3.ensures.value, ← c.deref-2.ensures.value) c.in-Some-position_of.ensures in
    let called : c.replace-other.new.dest.named.name ≡ c.args.to.now = ap (λ p. p.named.name) (c.replace-other.ensures.after ∙ c.set_name.ensures) ∙ c.as_bytes-2.ensures.value in
    let had : c.replace-other.result ≡ get_or c.remove-place.new.self.items c.in-Some-position_of.j c.replace-other.result = rw (c.replace-other.ensures.value) c.index_mut.ensures.value in
    roomy_over c.self.inside.room c.self.inside.files c.self.inside.free c.remove-place.new.self c.push_reserved.new.self c.in-Some.i c.in-Some-position_of.j c.remove-place.result c.replace-other.new.dest c.replace-other.result c.args.to.now c.self.invariant (first_of c.args.from.now c.self.inside.files.items c.in-Some.i at).1 c.remove-place.ensures.value c.remove-place.ensures.items c.remove-place.ensures.capacity over called (ap (λ p. p.room) (c.replace-other.ensures.after ∙ c.set_name.ensures)) c.push_reserved.ensures.items c.push_reserved.ensures.capacity had

pub invariant_of-self-in_default-position_of : goal.invariant_of-self-in_default-position_of
invariant_of-self-in_default-position_of c =
    let at : Some c.in-Some.i ≡ position (has_name c.args.from.now) c.self.inside.files.items = rw (← c.as_bytes.ensures.value, ← c.deref.ensures.value) c.in-Some.ensures in
    let none : None ≡ position (has_name c.args.to.now) c.remove-place.new.self.items = rw (← c.as_bytes-3.ensures.value, ← c.deref-2.ensures.value) c.in_default-position_of.ensures in
    roomy_end c.self.inside.room c.self.inside.files c.self.inside.free c.remove-place.new.self c.push_reserved-in_default-position_of.new.self c.in-Some.i c.remove-place.result c.set_name.new.self c.args.to.now c.self.invariant (first_of c.args.from.now c.self.inside.files.items c.in-Some.i at).1 c.remove-place.ensures.value c.remove-place.ensures.items c.remove-place.ensures.capacity none (ap (λ p. p.named.name) c.set_name.ensures ∙ c.as_bytes-2.ensures.value) (ap (λ p. p.room) c.set_name.ensures) c.push_reserved-in_default-position_of.ensures.items c.push_reserved-in_default-position_of.ensures.capacity

pub returns-in-Some-position_of-clause-failed : goal.returns-in-Some-position_of-clause-failed
returns-in-Some-position_of-clause-failed c =
    let at : Some c.in-Some.i ≡ position (has_name c.args.from.now) c.self.inside.files.items = rw (← c.as_bytes.ensures.value, ← c.deref.ensures.value) c.in-Some.ensures in
    let test : not (nat_le (length c.args.to.now) 255) ≡ nat_lt 255 (length c.args.to.now) = grind (arith, nat_tests) in
    rw (← c.self.view_is, at_position _ _ c.remove-place.result _ at, test) c.in_ok-answer.ensures.failed

pub returns-in-Some-position_of-clause-moved : goal.returns-in-Some-position_of-clause-moved
returns-in-Some-position_of-clause-moved c =
    let at : Some c.in-Some.i ≡ position (has_name c.args.from.now) c.self.inside.files.items = rw (← c.as_bytes.ensures.value, ← c.deref.ensures.value) c.in-Some.ensures in
    let takes : TakesOut c.self.inside.files.items c.in-Some.i c.remove-place.result c.set_name.new.self c.args.from.now c.args.to.now = record { single = c.self.invariant.single; at = at; called = ap (λ p. p.named.name) c.set_name.ensures ∙ c.as_bytes-2.ensures.value; was = c.remove-place.ensures.value; file = ap (λ p. p.named.file) c.set_name.ensures } in
    let over : Some c.in-Some-position_of.j ≡ position (has_name c.args.to.now) (remove c.self.inside.files.items c.in-Some.i) = rw (← c.as_bytes-3.ensures.value, ← c.remove-place.ensures.items, ← c.deref-2.ensures.value) c.in-Some-position_of.ensures in
    let passes : (is_due c.self.inside.plan || nat_lt 255 (length c.args.to.now)) ≡ false = granted (is_due c.self.inside.plan) (nat_lt 255 (length c.args.to.now)) c.in_ok-answer.ensures.failed.1 in
    let more : length c.push_reserved.new.self.items ≡ length c.self.inside.free.items + 1 = ap length c.push_reserved.ensures.items ∙ length-append c.self.inside.free.items (c.replace-other.result ∷ []) in
    rw (← c.self.view_is, c.remove-place.ensures.items, c.replace-other.ensures.after) (counted_move (folder_of c.self.inside.files.items (length c.self.inside.free.items) c.self.inside.room c.self.inside.plan) _ c.answer-2.new.self c.args.from.now c.args.to.now (looked (is_due c.self.inside.plan) _ _ _ c.in_ok-answer.ensures.counted passes) (renamed_over c.self.inside.files.items (length c.push_reserved.new.self.items) (length c.self.inside.free.items) c.self.inside.room c.answer-2.new.self c.in-Some.i c.in-Some-position_of.j c.remove-place.result c.set_name.new.self c.args.from.now c.args.to.now takes over more) refl)

pub returns-in_default-position_of-clause-failed : goal.returns-in_default-position_of-clause-failed
returns-in_default-position_of-clause-failed c =
    let at : Some c.in-Some.i ≡ position (has_name c.args.from.now) c.self.inside.files.items = rw (← c.as_bytes.ensures.value, ← c.deref.ensures.value) c.in-Some.ensures in
    let test : not (nat_le (length c.args.to.now) 255) ≡ nat_lt 255 (length c.args.to.now) = grind (arith, nat_tests) in
    rw (← c.self.view_is, at_position _ _ c.remove-place.result _ at, test) c.in_ok-answer.ensures.failed

pub returns-in_default-position_of-clause-moved : goal.returns-in_default-position_of-clause-moved
returns-in_default-position_of-clause-moved c =
    let at : Some c.in-Some.i ≡ position (has_name c.args.from.now) c.self.inside.files.items = rw (← c.as_bytes.ensures.value, ← c.deref.ensures.value) c.in-Some.ensures in
    let takes : TakesOut c.self.inside.files.items c.in-Some.i c.remove-place.result c.set_name.new.self c.args.from.now c.args.to.now = record { single = c.self.invariant.single; at = at; called = ap (λ p. p.named.name) c.set_name.ensures ∙ c.as_bytes-2.ensures.value; was = c.remove-place.ensures.value; file = ap (λ p. p.named.file) c.set_name.ensures } in
    let none : None ≡ position (has_name c.args.to.now) (remove c.self.inside.files.items c.in-Some.i) = rw (← c.as_bytes-3.ensures.value, ← c.remove-place.ensures.items, ← c.deref-2.ensures.value) c.in_default-position_of.ensures in
    let passes : (is_due c.self.inside.plan || nat_lt 255 (length c.args.to.now)) ≡ false = granted (is_due c.self.inside.plan) (nat_lt 255 (length c.args.to.now)) c.in_ok-answer.ensures.failed.1 in
    rw (← c.self.view_is, c.push_reserved-in_default-position_of.ensures.items, c.remove-place.ensures.items) (counted_move (folder_of c.self.inside.files.items (length c.self.inside.free.items) c.self.inside.room c.self.inside.plan) _ c.answer-2.new.self c.args.from.now c.args.to.now (looked (is_due c.self.inside.plan) _ _ _ c.in_ok-answer.ensures.counted passes) (renamed_to_end c.self.inside.files.items (length c.self.inside.free.items) c.self.inside.room c.answer-2.new.self c.in-Some.i c.remove-place.result c.set_name.new.self c.args.from.now c.args.to.now takes none) refl)
