use Rattle.std.proofs.Common.{◌≡◌, ℤ, Option, Some, None, pos, sym, subst, w32, w64, rules}
use Rattle.std.specs.Prelude.{Ok}
use Rattle.std.proofs.lemmas.Int.{to_z-of_z}
use Rattle.lo_base.specs.declared.refusal.Cause.TheVariants.{NoVariable}
use Rattle.lo_base.specs.declared.refusal.Denied.TheVariants.{By}
use Rattle.row_tables.specs.Terms.{refusal}
use Rattle.lo_machine.specs.ArrayRows.{elem_line, element_reply}
use Rattle.expanded_array.specs.Array.{element_at}
use Rattle.lo_machine.specs.Dispatch.{ReadsCall}
use Rattle.lo_machine.proofs.ArrayAnswers.{unnamed, element_told}
use Rattle.lo_machine.proofs.ArrayCalls.{looked, granted_reads, denied_reads}
use Rattle.lo_machine.proofs.server.Server.element.Goals as goal

pub returns-in_default : goal.returns-in_default
returns-in_default c =
    rw c.no_variable.ensures
    (denied_reads c.args.s c.place.result c.args.self.now c.args.self.now.variables c.index.result.now c.index.result.now
    (looked c.args.s c.place.result c.args.self.now c.index.result.now c.requires.sound c.requires.rows c.place.ensures.place c.place.ensures.within c.index.ensures)
    (elem_line c.args.name.now c.args.sub) (By (refusal NoVariable (pos 0))) (λ mine is. is) (unnamed c.index.result.now c.args.name.now c.in_default.ensures))

pub returns-in-Some-get : goal.returns-in-Some-get
returns-in-Some-get c =
    let told : Some c.in-Some-get.element ≡ element_at c.in-Some.array.now c.args.sub = rw (to_z-of_z w32 c.args.sub c.ranges.sub) at c.in-Some-get.ensures in
    let number : c.from.result ≡ c.in-Some-get.element = search rules in
    let grants =
    granted_reads c.args.s c.place.result c.args.self.now c.args.self.now.variables c.index.result.now c.index.result.now
    (looked c.args.s c.place.result c.args.self.now c.index.result.now c.requires.sound c.requires.rows c.place.ensures.place c.place.ensures.within c.index.ensures)
    (elem_line c.args.name.now c.args.sub) (element_reply (element_at c.in-Some.array.now c.args.sub)) (λ mine. mine) (element_told c.index.result.now c.args.name.now c.in-Some.array.now c.in-Some.ensures c.args.sub) in
    rw (to_z-of_z w64 c.from.result (search rules), number)
    (subst (λ (found : Option ℤ). ReadsCall c.args.s (elem_line c.args.name.now c.args.sub) c.args.self.now c.args.self.now (Ok (element_reply found))) (sym told) grants)

pub returns-in-None : goal.returns-in-None
returns-in-None c =
    let told : None ≡ element_at c.in-Some.array.now c.args.sub = rw (to_z-of_z w32 c.args.sub c.ranges.sub) at c.in-None.ensures in
    let grants =
    granted_reads c.args.s c.place.result c.args.self.now c.args.self.now.variables c.index.result.now c.index.result.now
    (looked c.args.s c.place.result c.args.self.now c.index.result.now c.requires.sound c.requires.rows c.place.ensures.place c.place.ensures.within c.index.ensures)
    (elem_line c.args.name.now c.args.sub) (element_reply (element_at c.in-Some.array.now c.args.sub)) (λ mine. mine) (element_told c.index.result.now c.args.name.now c.in-Some.array.now c.in-Some.ensures c.args.sub) in
    subst (λ (found : Option ℤ). ReadsCall c.args.s (elem_line c.args.name.now c.args.sub) c.args.self.now c.args.self.now (Ok (element_reply found))) (sym told) grants
