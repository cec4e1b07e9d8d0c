use Rattle.std.proofs.Common.{◌≡◌, true, Option, ℕ, ap, sym, subst, ◌∙◌}
use Rattle.std.specs.Prelude.{IsTrue}
use Rattle.orphan_sweep.specs.declared.act.SweepAct.{SweepAct}
use Rattle.orphan_sweep.specs.History.{acts_of, next_act}
use Rattle.orphan_sweep.specs.Plan.{is_answer_to}
use Rattle.orphan_sweep.specs.State.{State, next_of}
use Rattle.lo_machine.specs.SweepRows.{refused_at}
use Rattle.lo_machine.specs.Sweeping.{first_some, refused_by}
use Rattle.lo_machine.proofs.CleanupsTold.{refused_told, still_answers}
use Rattle.lo_machine.proofs.cleanup.Cleanup.tell.Goals as goal

pub returns : goal.returns
returns c h at =
    let next : c.next.result.now ≡ next_act h = c.next.ensures.by_history h at.sweep in
    let fits : is_answer_to (next_act h) c.args.answer ≡ true = subst (λ (s : State). is_answer_to (next_of s) c.args.answer ≡ true) at.sweep c.requires in
    record {
      sweep = c.told.ensures h at.sweep;
      dry = at.dry;
      refused =
          c.refused_with-self.ensures
          ∙ (ap (λ (o : Option ℕ). first_some o (refused_by c.next.result.now c.args.answer)) at.refused
          ∙ (ap (λ (act : SweepAct). first_some (refused_at (acts_of h) h.answers) (refused_by act c.args.answer)) next
          ∙ sym (refused_told h c.args.answer at.answers fits)));
      answers = still_answers h c.args.answer at.answers fits;
    }
