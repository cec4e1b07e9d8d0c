use Rattle.std.proofs.Common.{rules, ◌≡◌, ◌<◌, ◌++◌, ◌∷◌, [], ◌∙◌, ℤ, pos, ◌-ℤ◌, List, Option, Some, sym, ap, subst, w64, to_z, of_z}
use Rattle.std.specs.Prelude.{FitsSigned, SomeIff, reverse}
use Rattle.std.proofs.lemmas.Int.{to_z-of_z}
use Rattle.row_versions.specs.Search.{HasNoneIn, IsGreatestIn}
use Rattle.row_tables.specs.Keys.{key_cmp, row_key}
use Rattle.row_tables.specs.Reading.{ListsIds}
use Rattle.row_tables.proofs.IdLists.{ListsPast, lists_all, lists_fewer, lists_first, lists_more, lists_past_all, lowest, reverse_push, steps_from}
use Rattle.row_tables.proofs.tables.Tables.ids_of.Goals.{in-Some+in_default-last_in, in_default}
use Rattle.row_tables.proofs.tables.Tables.ids_of.Goals as goal

pub loop-last-init : goal.loop-last-init
loop-last-init c = subst (λ (ids : List ℤ). ListsPast c.args.core.now.xacts c.args.snap.now c.args.self.now c.args.number (Some (pos 9223372036854775807)) (reverse ids)) (sym c.new-ids.ensures.items) (lists_first c.args.core.now.xacts c.args.snap.now c.args.self.now c.args.number)

pub loop-last-smaller : goal.loop-last-smaller
loop-last-smaller c =
    let lists : ListsPast c.args.core.now.xacts c.args.snap.now c.args.self.now c.args.number (Some c.in-Some.id) (reverse c.loop-last.ids.items) = subst (λ (o : Option ℤ). ListsPast c.args.core.now.xacts c.args.snap.now c.args.self.now c.args.number o (reverse c.loop-last.ids.items)) c.in-Some.is c.loop-last.invariant in
    let last : to_z w64 (of_z w64 c.in-Some.id) ≡ c.in-Some.id = to_z-of_z w64 c.in-Some.id lists.last_fits in
    let fits : FitsSigned w64 c.in-Some-last_in.key.id = search rules in
    let key : to_z w64 (of_z w64 c.in-Some-last_in.key.id) ≡ c.in-Some-last_in.key.id = to_z-of_z w64 c.in-Some-last_in.key.id fits in
    let found : IsGreatestIn key_cmp c.args.core.now.xacts c.args.snap.now c.args.self.now.rows (row_key c.args.number lowest) (row_key c.args.number c.in-Some.id) c.in-Some-last_in.key = subst (λ (z : ℤ). IsGreatestIn key_cmp c.args.core.now.xacts c.args.snap.now c.args.self.now.rows (row_key c.args.number lowest) (row_key c.args.number z) c.in-Some-last_in.key) last c.in-Some-last_in.ensures in
    let less : SomeIff c.checked_sub-last.result (FitsSigned w64 (c.in-Some-last_in.key.id -ℤ pos 1)) (c.in-Some-last_in.key.id -ℤ pos 1) = subst (λ (z : ℤ). SomeIff c.checked_sub-last.result (FitsSigned w64 (z -ℤ pos 1)) (z -ℤ pos 1)) key c.checked_sub-last.ensures in
    subst (λ (o : Option ℤ). steps_from c.checked_sub-last.result < steps_from o) (sym c.in-Some.is) (lists_fewer c.args.core.now.xacts c.args.snap.now c.args.self.now c.args.number c.in-Some.id (reverse c.loop-last.ids.items) lists c.in-Some-last_in.key found fits c.checked_sub-last.result less)

pub loop-last-preserved : goal.loop-last-preserved
loop-last-preserved c =
    let lists : ListsPast c.args.core.now.xacts c.args.snap.now c.args.self.now c.args.number (Some c.in-Some.id) (reverse c.loop-last.ids.items) = subst (λ (o : Option ℤ). ListsPast c.args.core.now.xacts c.args.snap.now c.args.self.now c.args.number o (reverse c.loop-last.ids.items)) c.in-Some.is c.loop-last.invariant in
    let last : to_z w64 (of_z w64 c.in-Some.id) ≡ c.in-Some.id = to_z-of_z w64 c.in-Some.id lists.last_fits in
    let fits : FitsSigned w64 c.in-Some-last_in.key.id = search rules in
    let key : to_z w64 (of_z w64 c.in-Some-last_in.key.id) ≡ c.in-Some-last_in.key.id = to_z-of_z w64 c.in-Some-last_in.key.id fits in
    let found : IsGreatestIn key_cmp c.args.core.now.xacts c.args.snap.now c.args.self.now.rows (row_key c.args.number lowest) (row_key c.args.number c.in-Some.id) c.in-Some-last_in.key = subst (λ (z : ℤ). IsGreatestIn key_cmp c.args.core.now.xacts c.args.snap.now c.args.self.now.rows (row_key c.args.number lowest) (row_key c.args.number z) c.in-Some-last_in.key) last c.in-Some-last_in.ensures in
    let less : SomeIff c.checked_sub-last.result (FitsSigned w64 (c.in-Some-last_in.key.id -ℤ pos 1)) (c.in-Some-last_in.key.id -ℤ pos 1) = subst (λ (z : ℤ). SomeIff c.checked_sub-last.result (FitsSigned w64 (z -ℤ pos 1)) (z -ℤ pos 1)) key c.checked_sub-last.ensures in
    let pushed : reverse c.push.new.self.items ≡ c.in-Some-last_in.key.id ∷ reverse c.loop-last.ids.items = ap reverse (c.in_ok-push.ensures.items ∙ ap (λ (z : ℤ). c.loop-last.ids.items ++ z ∷ []) key) ∙ reverse_push c.loop-last.ids.items c.in-Some-last_in.key.id in
    subst (λ (ids : List ℤ). ListsPast c.args.core.now.xacts c.args.snap.now c.args.self.now c.args.number c.checked_sub-last.result ids) (sym pushed) (lists_more c.args.core.now.xacts c.args.snap.now c.args.self.now c.args.number c.in-Some.id (reverse c.loop-last.ids.items) lists c.in-Some-last_in.key found fits c.checked_sub-last.result less)

pub returns : goal.returns
returns c =
    subst (λ (ids : List ℤ). ListsIds c.args.core.now.xacts c.args.snap.now c.args.self.now c.args.number ids) (sym c.reverse.ensures.items)
    (elim c.match-last.branch [
      | in-Some+in_default-last_in w ↦
          (let lists : ListsPast c.args.core.now.xacts c.args.snap.now c.args.self.now c.args.number (Some w.in-Some.id) (reverse c.loop-last.ids.items) = subst (λ (o : Option ℤ). ListsPast c.args.core.now.xacts c.args.snap.now c.args.self.now c.args.number o (reverse c.loop-last.ids.items)) w.in-Some.is c.loop-last.invariant in
          let last : to_z w64 (of_z w64 w.in-Some.id) ≡ w.in-Some.id = to_z-of_z w64 w.in-Some.id lists.last_fits in
          let none : HasNoneIn key_cmp c.args.core.now.xacts c.args.snap.now c.args.self.now.rows (row_key c.args.number lowest) (row_key c.args.number w.in-Some.id) = subst (λ (z : ℤ). HasNoneIn key_cmp c.args.core.now.xacts c.args.snap.now c.args.self.now.rows (row_key c.args.number lowest) (row_key c.args.number z)) last w.in_default-last_in.ensures in
          lists_all c.args.core.now.xacts c.args.snap.now c.args.self.now c.args.number w.in-Some.id (reverse c.loop-last.ids.items) lists none)
      | in_default w ↦ lists_past_all c.args.core.now.xacts c.args.snap.now c.args.self.now c.args.number (reverse c.loop-last.ids.items) (subst (λ (o : Option ℤ). ListsPast c.args.core.now.xacts c.args.snap.now c.args.self.now c.args.number o (reverse c.loop-last.ids.items)) w.in_default.is c.loop-last.invariant)
    ])
