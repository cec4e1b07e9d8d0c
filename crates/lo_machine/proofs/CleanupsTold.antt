-- What a clean-up keeps of its history once it is told one more answer.
use Rattle.std.proofs.Common.{◌≡◌, ℕ, zero, suc, ◌+◌, Bool, true, false, List, [], ◌∷◌, ◌++◌, length, take, Option, Some, None, refl, ap, sym, subst, ◌∙◌, arith}
use Rattle.std.specs.Prelude.{IsTrue}
use Rattle.orphan_sweep.specs.declared.act.SweepAct.{SweepAct}
use Rattle.orphan_sweep.specs.declared.act.SweepAct.TheVariants as acts
use Rattle.orphan_sweep.specs.declared.act.Told.{Told}
use Rattle.orphan_sweep.specs.declared.act.Told.TheVariants.{Found, Granted, Refused}
use Rattle.orphan_sweep.specs.History.{History, begun, and_told, acts_of, acts_done, next_act}
use Rattle.orphan_sweep.specs.Law.{AreAnswers, asked, and_all_told}
use Rattle.orphan_sweep.specs.Plan.{is_answer_to}
use Rattle.orphan_sweep.proofs.AskedActs.{keeps_answers, asked-from_start}
use Rattle.lo_machine.specs.SweepRows.{refused_at}
use Rattle.lo_machine.specs.Sweeping.{first_some, refused_by}

pub none_refused : (acts' : List SweepAct) → refused_at acts' [] ≡ None
none_refused [] = refl
none_refused (acts.Unlink o ∷ more) = refl
none_refused (act ∷ more) = refl

-- one act more, where as many were answered
refused_more : (acts' : List SweepAct) (answers : List Told) (act : SweepAct) (answer : Told) → length acts' ≡ length answers → refused_at (acts' ++ act ∷ []) (answers ++ answer ∷ []) ≡ first_some (refused_at acts' answers) (refused_by act answer)
refused_more [] [] act answer same = refl
refused_more [] (one ∷ answers) act answer same = absurd (omega (arith, same))
refused_more (one ∷ acts') [] act answer same = absurd (omega (arith, same))
refused_more (acts.Unlink o ∷ acts') (Refused ∷ answers) act answer same = refl
refused_more (acts.Unlink o ∷ acts') (Granted ∷ answers) act answer same = refused_more acts' answers act answer (omega (arith, same))
refused_more (acts.Unlink o ∷ acts') (Found numbers ∷ answers) act answer same = refused_more acts' answers act answer (omega (arith, same))
refused_more (one ∷ acts') (other ∷ answers) act answer same = refused_more acts' answers act answer (omega (arith, same))

-- only the acts that were answered count
refused_front : (acts' : List SweepAct) (answers : List Told) → refused_at (take (length answers) acts') answers ≡ refused_at acts' answers
refused_front acts' [] = sym (none_refused acts')
refused_front [] (answer ∷ answers) = refl
refused_front (acts.Unlink o ∷ acts') (Refused ∷ answers) = refl
refused_front (acts.Unlink o ∷ acts') (Granted ∷ answers) = refused_front acts' answers
refused_front (acts.Unlink o ∷ acts') (Found numbers ∷ answers) = refused_front acts' answers
refused_front (act ∷ acts') (answer ∷ answers) = refused_front acts' answers

-- one answer more

asked_more : (h : History) (answers : List Told) (answer : Told) → asked h (answers ++ answer ∷ []) ≡ asked h answers ++ next_act (and_all_told h answers) ∷ []
asked_more h [] answer = refl
asked_more h (one ∷ answers) answer = ap (λ (more : List SweepAct). next_act h ∷ more) (asked_more (and_told h one) answers answer)

asked_length : (h : History) (answers : List Told) → length (asked h answers) ≡ length answers
asked_length h [] = refl
asked_length h (one ∷ answers) = ap suc (asked_length (and_told h one) answers)

answers_more : (h : History) (answers : List Told) (answer : Told) → AreAnswers h answers → is_answer_to (next_act (and_all_told h answers)) answer ≡ true → AreAnswers h (answers ++ answer ∷ [])
answers_more h [] answer are fits = (fits, tt)
answers_more h (one ∷ answers) answer are fits = (are.0, answers_more (and_told h one) answers answer are.1 fits)

module _ (h : History) (answer : Told) (are : AreAnswers (begun h.dry h.limit h.list h.scans) h.answers) (fits : is_answer_to (next_act h) answer ≡ true) where
  abbrev first : History
  first = begun h.dry h.limit h.list h.scans

  -- the history is what its answers lead to
  led : and_all_told first h.answers ≡ h
  led = keeps_answers h.dry h.limit h.list h.scans h.answers

  led_on : and_all_told first (h.answers ++ answer ∷ []) ≡ and_told h answer
  led_on = keeps_answers h.dry h.limit h.list h.scans (h.answers ++ answer ∷ [])

  pub still_answers : AreAnswers first (h.answers ++ answer ∷ [])
  still_answers = answers_more first h.answers answer are (subst (λ (g : History). is_answer_to (next_act g) answer ≡ true) (sym led) fits)

  done_then : acts_done h ≡ asked first h.answers
  done_then = ap acts_done (sym led) ∙ sym (asked-from_start h.dry h.limit h.list h.scans h.answers are)

  done_now : acts_done (and_told h answer) ≡ asked first h.answers ++ next_act h ∷ []
  done_now =
      ap acts_done (sym led_on)
      ∙ (sym (asked-from_start h.dry h.limit h.list h.scans (h.answers ++ answer ∷ []) still_answers)
      ∙ (asked_more first h.answers answer
      ∙ ap (λ (g : History). asked first h.answers ++ next_act g ∷ []) led))

  pub refused_told : refused_at (acts_of (and_told h answer)) (h.answers ++ answer ∷ []) ≡ first_some (refused_at (acts_of h) h.answers) (refused_by (next_act h) answer)
  refused_told =
      sym (refused_front (acts_of (and_told h answer)) (h.answers ++ answer ∷ []))
      ∙ (ap (λ (done : List SweepAct). refused_at done (h.answers ++ answer ∷ [])) done_now
      ∙ (refused_more (asked first h.answers) h.answers (next_act h) answer (asked_length first h.answers)
      ∙ ap (λ (found : Option ℕ). first_some found (refused_by (next_act h) answer)) (ap (λ (done : List SweepAct). refused_at done h.answers) (sym done_then) ∙ refused_front (acts_of h) h.answers)))
