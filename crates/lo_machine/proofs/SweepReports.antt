-- What a clean-up has done when its report comes.
use Rattle.std.proofs.Common.{◌≡◌, refl, sym, ap, ◌∙◌, subst, ℕ, Bool, true, false, ◌||◌, List, [], ◌∷◌, ◌++◌, length, map, Option, Some, None}
use Rattle.std.specs.Prelude.{is_some, if◌then◌else◌}
use Rattle.std.specs.List.{list_any, flat_map}
use Rattle.lo_base.specs.declared.refusal.Refusal.{Refusal}
use Rattle.lo_base.specs.declared.reply.Reply.TheVariants.{Counted}
use Rattle.lo_base.specs.declared.reply.Word.TheVariants as words
use Rattle.lo_base.specs.declared.request.Request.{Request}
use Rattle.lo_base.specs.declared.request.Request.TheVariants.{Vacuumlo, Step, Finish}
use Rattle.lo_model.proofs.ListingLaws.{oids_ascend}
use Rattle.orphan_sweep.specs.declared.act.SweepAct.{SweepAct}
use Rattle.orphan_sweep.specs.declared.act.SweepAct.TheVariants as acts
use Rattle.orphan_sweep.specs.History.{History, begun, and_told, next_act, numbers_found, rest_of, removed_of}
use Rattle.orphan_sweep.specs.History.{acts_of as acts_of_history}
use Rattle.orphan_sweep.specs.declared.act.Told.{Told}
use Rattle.orphan_sweep.specs.declared.act.Told.TheVariants.{Found, Granted, Refused}
use Rattle.orphan_sweep.specs.Plan.{scan_act, group_acts, is_answer_to, unlinks}
use Rattle.orphan_sweep.specs.Rest.{less, groups}
use Rattle.orphan_sweep.specs.Law.{AreAnswers, asked, and_all_told, is_refused, RemovesAll}
use Rattle.orphan_sweep.proofs.AskedActs.{keeps_answers, removes_the_rest}
use Rattle.lo_machine.specs.State.{State, Outcome, Player, session_of, view_of}
use Rattle.lo_machine.specs.Step.{granted, refusal_of, granted_or_refused, outcome, reply_to}
use Rattle.lo_machine.specs.SweepRows.{sweep_begun, act_of, act_in, act_granted, told_of, answer_to, report, report_in, refused_at}
use Rattle.lo_machine.specs.SweepLaw.{Done, is_act_line, acts_of, is_denied, told_by, found_at, found_by, Sweeping, IsSweeping, KeepsHistory, RemovesTheRest, is_stopped, beginning, end, done, listed, scans, rest, history}
use Rattle.lo_machine.proofs.SweepActs.{Follows, AreTold, all_told, own_player, unrefused_line}

-- a granted vacuumlo begins a history without answers
pub both_false : (a b : Bool) → (a || b) ≡ false → (a ≡ false) × (b ≡ false)
both_false false b h = (refl, h)
both_false true b h = cc

nothing : (act : SweepAct) (more : List SweepAct) → refused_at (act ∷ more) [] ≡ None
nothing (acts.Scan t c) more = refl
nothing acts.Begin more = refl
nothing (acts.Unlink o) more = refl
nothing acts.Commit more = refl
nothing acts.Rollback more = refl
nothing acts.Report more = refl
nothing acts.Idle more = refl

abbrev pub history_with : Bool → Sweeping → History
history_with dry w = record { dry = dry; limit = w.limit; list = listed w; scans = scans w; answers = map (told_by w.session) (done w) }

begins : (w : Sweeping) → IsSweeping w → ((beginning w).state.players w.session).sweep ≡ Some (sweep_begun w.moment.state w.session w.dry w.limit)
begins w is =
    ap (λ (p : Player). p.sweep) (own_player w.moment.state w.session (Vacuumlo w.dry w.limit))
    ∙ ap (λ refusal. (granted_or_refused w.moment.state w.session (Vacuumlo w.dry w.limit) refusal).player.sweep) is.granted

pub told : (w : Sweeping) → IsSweeping w → AreTold w.session (end w) (sweep_begun w.moment.state w.session w.dry w.limit) (done w)
told w is = all_told w.session w.programs (beginning w) w.since _ (begins w is) is.last

-- What follows a history answers it, and was asked for by it.

pub answers_follow : (s : ℕ) (h : History) (done : List Done) → Follows s h done → AreAnswers h (map (told_by s) done)
answers_follow s h [] follows = tt
answers_follow s h (d ∷ done) follows =
    (ap (λ a. is_answer_to a (told_by s d)) (sym follows.0) ∙ follows.1, answers_follow s (and_told h (told_by s d)) done follows.3)

pub acts_follow : (s : ℕ) (h : History) (done : List Done) → Follows s h done → acts_of done ≡ asked h (map (told_by s) done)
acts_follow s h [] follows = refl
acts_follow s h (d ∷ done) follows =
    ap (λ a. a ∷ acts_of done) follows.0 ∙ ap (λ more. next_act h ∷ more) (acts_follow s (and_told h (told_by s d)) done follows.3)

pub refused_follow : (s : ℕ) (h : History) (done : List Done) → Follows s h done → list_any is_refused (map (told_by s) done) ≡ list_any (is_denied s) done
refused_follow s h [] follows = refl
refused_follow s h (d ∷ done) follows =
    ap (λ b. b || list_any is_refused (map (told_by s) done)) follows.2 ∙ ap (λ b. is_denied s d || b) (refused_follow s (and_told h (told_by s d)) done follows.3)

pub follows_split : (s : ℕ) (h : History) (first second : List Done) → Follows s h (first ++ second) → Follows s h first × Follows s (and_all_told h (map (told_by s) first)) second
follows_split s h [] second follows = (tt, follows)
follows_split s h (d ∷ first) second follows =
    let both = follows_split s (and_told h (told_by s d)) first second follows.3 in
    ((follows.0, follows.1, follows.2, both.0), both.1)

-- What the scans found is what the history says was found.

found_told : (st : State) (s : ℕ) (act : SweepAct) (refused : Bool) → numbers_found (answer_to st s act refused) ≡ found_at st s act
found_told st s (acts.Scan t c) refused = refl
found_told st s acts.Begin true = refl
found_told st s acts.Begin false = refl
found_told st s (acts.Unlink o) true = refl
found_told st s (acts.Unlink o) false = refl
found_told st s acts.Commit true = refl
found_told st s acts.Commit false = refl
found_told st s acts.Rollback true = refl
found_told st s acts.Rollback false = refl
found_told st s acts.Report true = refl
found_told st s acts.Report false = refl
found_told st s acts.Idle true = refl
found_told st s acts.Idle false = refl

all_found : (s : ℕ) (done : List Done) → flat_map numbers_found (map (told_by s) done) ≡ flat_map (found_by s) done
all_found s [] = refl
all_found s (d ∷ done) =
    ap (λ here. here ++ flat_map numbers_found (map (told_by s) done)) (found_told d.state s d.act (is_denied s d))
    ∙ ap (λ more. found_by s d ++ more) (all_found s done)

pub keeps_history : (w : Sweeping) → IsSweeping w → KeepsHistory w
keeps_history w is = record {
  kept = (told w is).kept ∙ ap (λ h. Some h) (keeps_answers w.dry w.limit (listed w) (scans w) (map (told_by w.session) (done w)));
  answers = answers_follow w.session _ (done w) (told w is).follows;
  acts = acts_follow w.session _ (done w) (told w is).follows;
  scanned = all_found w.session (done w);
  ascending = oids_ascend (view_of w.moment.state w.session);
}

pub rest_is : (w : Sweeping) → rest_of (history w) ≡ rest w
rest_is w = ap (less (listed w)) (all_found w.session (done w))

-- The reply to a line that does the report.

reply_told : (st : State) (s : ℕ) (act : SweepAct) (refused : Bool) (done' : Outcome) → (told_of st s act refused done').reply ≡ done'.reply
reply_told st s (acts.Scan t c) refused done' = refl
reply_told st s acts.Begin refused done' = refl
reply_told st s (acts.Unlink o) refused done' = refl
reply_told st s acts.Commit refused done' = refl
reply_told st s acts.Rollback refused done' = refl
reply_told st s acts.Report refused done' = refl
reply_told st s acts.Idle refused done' = refl

is_none_where : (refusal : Option Refusal) → is_some refusal ≡ false → refusal ≡ None
is_none_where None h = refl
is_none_where (Some r) h = cc

act_reply : (st : State) (s : ℕ) (line : Request) → is_act_line line ≡ true → (outcome st s line).reply ≡ (granted_or_refused st s line (refusal_of st s line)).reply
act_reply st s Step does = reply_told st s (act_of st s) (is_some (refusal_of st s Step)) (granted_or_refused st s Step (refusal_of st s Step))
act_reply st s Finish does = reply_told st s (act_of st s) (is_some (refusal_of st s Finish)) (granted_or_refused st s Finish (refusal_of st s Finish))
act_reply st s line does = cc

act_outcome : (st : State) (s : ℕ) (line : Request) → is_act_line line ≡ true → granted st s line ≡ act_granted st s (act_of st s)
act_outcome st s Step does = refl
act_outcome st s Finish does = refl
act_outcome st s line does = cc

report_line : (st : State) (s : ℕ) (line : Request) → is_act_line line ≡ true → act_of st s ≡ acts.Report → reply_to st s line ≡ report_in (st.players s).sweep
report_line st s line does is =
    let granted' : refusal_of st s line ≡ None = is_none_where (refusal_of st s line) (unrefused_line st s line acts.Report (session_of st s).transaction.failed does is refl refl refl) in
    act_reply st s line does ∙ (ap (λ r. (granted_or_refused st s line r).reply) granted' ∙ (ap (λ (o : Outcome). o.reply) (act_outcome st s line does) ∙ ap (λ a. (act_granted st s a).reply) is))

pub reported : (w : Sweeping) → IsSweeping w → (line : Request) → is_act_line line ≡ true → act_of (end w).state w.session ≡ acts.Report → reply_to (end w).state w.session line ≡ report (history w) (refused_at (acts_of_history (history w)) (history w).answers)
reported w is line does next =
    report_line (end w).state w.session line does next ∙ ap report_in (keeps_history w is).kept

pub next_report : (w : Sweeping) → IsSweeping w → act_of (end w).state w.session ≡ acts.Report → next_act (history w) ≡ acts.Report
next_report w is next = ap act_in (sym (keeps_history w is).kept) ∙ next

-- Nothing was refused.

pub refused_later : (act : SweepAct) (answer : Told) (acts' : List SweepAct) (answers : List Told) → is_refused answer ≡ false → refused_at (act ∷ acts') (answer ∷ answers) ≡ refused_at acts' answers
refused_later act Refused acts' answers other = cc
refused_later (acts.Unlink o) Granted acts' answers other = refl
refused_later (acts.Unlink o) (Found numbers) acts' answers other = refl
refused_later (acts.Scan t c) answer acts' answers other = refl
refused_later acts.Begin answer acts' answers other = refl
refused_later acts.Commit answer acts' answers other = refl
refused_later acts.Rollback answer acts' answers other = refl
refused_later acts.Report answer acts' answers other = refl
refused_later acts.Idle answer acts' answers other = refl

pub none_here : (p : Told → Bool) (answer : Told) (answers : List Told) → list_any p (answer ∷ answers) ≡ false → (p answer ≡ false) × (list_any p answers ≡ false)
none_here p answer answers none = both_false (p answer) (list_any p answers) none

pub none_refused : (acts' : List SweepAct) (answers : List Told) → list_any is_refused answers ≡ false → refused_at acts' answers ≡ None
none_refused [] [] none = refl
none_refused [] (answer ∷ answers) none = refl
none_refused (act ∷ acts') [] none = nothing act acts'
none_refused (act ∷ acts') (answer ∷ answers) none =
    let each = none_here is_refused answer answers none in
    refused_later act answer acts' answers each.0 ∙ none_refused acts' answers each.1

-- a wet clean-up
pub removes : (w : Sweeping) → IsSweeping w → w.dry ≡ false → is_stopped w ≡ false → act_of (end w).state w.session ≡ acts.Report → RemovesTheRest w (length (rest w)) × (report (history w) (refused_at (acts_of_history (history w)) (history w).answers) ≡ Counted words.Removed (length (rest w)))
removes w is wet granted next =
    let none : list_any is_refused (history w).answers ≡ false = refused_follow w.session _ (done w) (told w is).follows ∙ granted in
    let same : and_all_told (begun false w.limit (listed w) (scans w)) (history w).answers ≡ history w = keeps_answers false w.limit (listed w) (scans w) (history w).answers ∙ ap (λ d. history_with d w) (sym wet) in
    let all : RemovesAll w.limit (scans w) (rest_of (history w)) (asked (begun false w.limit (listed w) (scans w)) (history w).answers) (removed_of (history w)) =
    subst (λ (h : History). next_act h ≡ acts.Report → RemovesAll w.limit (scans w) (rest_of h) (asked (begun false w.limit (listed w) (scans w)) (history w).answers) (removed_of h)) same
    (removes_the_rest w.limit (listed w) (scans w) (history w).answers (subst (λ d. AreAnswers (begun d w.limit (listed w) (scans w)) (history w).answers) wet (keeps_history w is).answers) none) (next_report w is next) in
    let asks : acts_of (done w) ≡ asked (begun false w.limit (listed w) (scans w)) (history w).answers = (keeps_history w is).acts ∙ ap (λ d. asked (begun d w.limit (listed w) (scans w)) (history w).answers) wet in (
      record {
        wet = wet;
        granted = granted;
        by_groups = asks ∙ (all.by_groups ∙ ap (λ r. map scan_act (scans w) ++ flat_map group_acts (groups w.limit r)) (rest_is w));
        each = ap unlinks asks ∙ (all.each ∙ rest_is w);
        counted = refl;
      },
      ap (report (history w)) (none_refused (acts_of_history (history w)) (history w).answers none)
          ∙ (ap (λ d. if d then Counted words.WouldRemove (length (rest_of (history w))) else Counted words.Removed (removed_of (history w))) wet
          ∙ ap (λ n. Counted words.Removed n) (all.counted ∙ ap length (rest_is w))),
    )
