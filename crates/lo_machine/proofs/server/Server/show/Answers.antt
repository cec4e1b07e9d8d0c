use Rattle.std.proofs.Common.{◌≡◌, ◌∙◌, ◌++◌, ℕ, List, ap, pos, sym, subst}
use Rattle.std.specs.Prelude.{Ok}
use Rattle.expanded_array.specs.Text.{array_text}
use Rattle.lo_base.specs.declared.refusal.Cause.TheVariants.{NoVariable}
use Rattle.lo_base.specs.declared.refusal.Denied.TheVariants.{By, NoMemory}
use Rattle.lo_base.specs.declared.reply.Reply.TheVariants.{Text}
use Rattle.row_tables.specs.Terms.{refusal}
use Rattle.lo_machine.specs.ArrayRows.{show_line}
use Rattle.lo_machine.specs.Dispatch.{ReadsCall}
use Rattle.lo_machine.proofs.ArrayAnswers.{unnamed, text_told}
use Rattle.lo_machine.proofs.ArrayCalls.{looked, granted_reads, denied_reads}
use Rattle.lo_machine.proofs.server.Server.show.Goals as goal

pub returns-in_default : goal.returns-in_default
returns-in_default c =
    rw c.no_variable.ensures
    (denied_reads c.args.s c.place.result c.args.self.now c.args.self.now.variables c.index.result.now c.index.result.now
    (looked c.args.s c.place.result c.args.self.now c.index.result.now c.requires.sound c.requires.rows c.place.ensures.place c.place.ensures.within c.index.ensures)
    (show_line c.args.name.now) (By (refusal NoVariable (pos 0))) (λ mine is. is) (unnamed c.index.result.now c.args.name.now c.in_default.ensures))

pub returns-in_default-text : goal.returns-in_default-text
returns-in_default-text c =
    denied_reads c.args.s c.place.result c.args.self.now c.args.self.now.variables c.index.result.now c.index.result.now
    (looked c.args.s c.place.result c.args.self.now c.index.result.now c.requires.sound c.requires.rows c.place.ensures.place c.place.ensures.within c.index.ensures)
    (show_line c.args.name.now) NoMemory (λ mine is. is) tt

pub returns : goal.returns
returns c =
    let told : c.text.new.out ≡ array_text c.in-Some.array.now = c.in-Ok.ensures.ok ∙ ap (λ (front : List ℕ). front ++ array_text c.in-Some.array.now) c.new-text.ensures in
    let grants =
    granted_reads c.args.s c.place.result c.args.self.now c.args.self.now.variables c.index.result.now c.index.result.now
    (looked c.args.s c.place.result c.args.self.now c.index.result.now c.requires.sound c.requires.rows c.place.ensures.place c.place.ensures.within c.index.ensures)
    (show_line c.args.name.now) (Text (array_text c.in-Some.array.now)) (λ mine. mine) (text_told c.index.result.now c.args.name.now c.in-Some.array.now c.in-Some.ensures) in
    subst (λ (text : List ℕ). ReadsCall c.args.s (show_line c.args.name.now) c.args.self.now c.args.self.now (Ok (Text text))) (sym told) grants
