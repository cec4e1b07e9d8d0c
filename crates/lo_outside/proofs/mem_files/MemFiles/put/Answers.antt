use Rattle.std.proofs.Common.{◌≡◌, ◌+◌, [], ◌∷◌, Some, None, position, ap, sym, ◌∙◌, length, length-append, arith}
use Rattle.std.proofs.lemmas.List.Elements.{All-push, All-pop}
use Rattle.lo_outside.specs.Place.{HasRoom, has_name}
use Rattle.lo_outside.proofs.NamesOnce.{single_push}
use Rattle.lo_outside.proofs.SettingBytes.{first_of, put_there, put_new, can_there, cannot_new}
use Rattle.lo_outside.proofs.Writing.{roomy_set}
use Rattle.lo_outside.proofs.mem_files.MemFiles.put.Goals as goal

pub returns-in-Some-clause-fits : goal.returns-in-Some-clause-fits
returns-in-Some-clause-fits c =
    let at : Some c.in-Some.i ≡ position (has_name c.args.name.now) c.self.inside.files.items = rw (← c.as_bytes.ensures.value, ← c.deref.ensures.value) c.in-Some.ensures in
    rw (← c.self.view_is) (can_there c.self.inside.files.items _ _ c.self.inside.plan _ c.args.name.now c.args.bytes.now c.if-name-gt-NAME_ROOM.false c.if-bytes-self.false at)

pub returns-in-Some-clause-put : goal.returns-in-Some-clause-put
returns-in-Some-clause-put c =
    let at : Some c.in-Some.i ≡ position (has_name c.args.name.now) c.self.inside.files.items = rw (← c.as_bytes.ensures.value, ← c.deref.ensures.value) c.in-Some.ensures in
    λ _. rw (← c.self.view_is) (put_there c.self.inside.files.items _ _ _ _ c.index_mut.result.now _ c.args.name.now c.args.bytes.now at c.index_mut.ensures.value c.set_bytes.ensures)

pub invariant_of-self : goal.invariant_of-self
invariant_of-self c =
    let at : Some c.in-Some.i ≡ position (has_name c.args.name.now) c.self.inside.files.items = rw (← c.as_bytes.ensures.value, ← c.deref.ensures.value) c.in-Some.ensures in
    roomy_set c.self.inside.room c.self.inside.files c.self.inside.free c.in-Some.i c.index_mut.result.now c.set_bytes.new.self c.self.invariant (first_of c.args.name.now c.self.inside.files.items c.in-Some.i at).1 c.index_mut.ensures.value (ap (λ p. p.named.name) c.set_bytes.ensures) (ap (λ p. p.room) c.set_bytes.ensures)

pub returns-in_default-pop-clause-fits : goal.returns-in_default-pop-clause-fits
returns-in_default-pop-clause-fits c =
    let none : None ≡ position (has_name c.args.name.now) c.self.inside.files.items = rw (← c.as_bytes.ensures.value, ← c.deref.ensures.value) c.in_default.ensures in
    let full : length c.self.inside.free.items ≡ 0 = omega (arith, c.in_default-pop.ensures.cases.0) in
    rw (← c.self.view_is) (cannot_new c.self.inside.files.items _ _ c.self.inside.plan c.args.name.now c.args.bytes.now none full)

pub invariant_of-self-2 : goal.invariant_of-self-2
invariant_of-self-2 c =
    let pushed = c.push_reserved.ensures in
    let none : None ≡ position (has_name c.args.name.now) c.self.inside.files.items = rw (← c.as_bytes.ensures.value, ← c.deref.ensures.value) c.in_default.ensures in
    let called : c.set_bytes-2.new.self.named.name ≡ c.args.name.now = ap (λ p. p.named.name) c.set_bytes-2.ensures ∙ ap (λ p. p.named.name) c.set_name.ensures ∙ c.as_bytes-2.ensures.value in
    let items = c.in-Some-pop.ensures.items in
    let held = c.self.invariant in
    let rooms = All-pop (HasRoom c.self.inside.room) c.self.inside.free.items c.pop.new.self.items (Some c.in-Some-pop.place) items held.free_room in
    let room : c.set_bytes-2.new.self.room ≡ c.self.inside.room = ap (λ p. p.room) c.set_bytes-2.ensures ∙ ap (λ p. p.room) c.set_name.ensures ∙ rooms.1 in
    let one_less : length c.self.inside.free.items ≡ length c.pop.new.self.items + 1 = rw items (length-append c.pop.new.self.items (c.in-Some-pop.place ∷ [])) in
    let one_more : length c.push_reserved.new.self.items ≡ length c.self.inside.files.items + 1 = rw pushed.items (length-append c.self.inside.files.items (c.set_bytes-2.new.self ∷ [])) in
    record {
      capacity = omega (arith, held.capacity, one_less, one_more, pushed.capacity);
      free_capacity = omega (arith, held.free_capacity, one_less, one_more, c.pop.ensures.capacity);
      single = rw pushed.items (single_push c.self.inside.files.items c.set_bytes-2.new.self c.args.name.now none called held.single);
      files_room = rw pushed.items (All-push (HasRoom c.self.inside.room) c.self.inside.files.items c.set_bytes-2.new.self held.files_room room);
      free_room = rooms.0;
    }

pub returns-clause-put : goal.returns-clause-put
returns-clause-put c =
    let none : None ≡ position (has_name c.args.name.now) c.self.inside.files.items = rw (← c.as_bytes.ensures.value, ← c.deref.ensures.value) c.in_default.ensures in
    let called : c.set_name.new.self.named.name ≡ c.args.name.now = ap (λ p. p.named.name) c.set_name.ensures ∙ c.as_bytes-2.ensures.value in
    let one_less : length c.pop.new.self.items + 1 ≡ length c.self.inside.free.items = rw c.in-Some-pop.ensures.items (sym (length-append c.pop.new.self.items (c.in-Some-pop.place ∷ []))) in
    λ _. rw (← c.self.view_is, c.push_reserved.ensures.items)
    (put_new c.self.inside.files.items _ _ _ _ _ c.set_name.new.self c.args.name.now c.args.bytes.now none called c.set_bytes-2.ensures one_less)
