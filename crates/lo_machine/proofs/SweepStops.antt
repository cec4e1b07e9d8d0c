-- What a dry clean-up has done at its report, and one that was stopped by a refusal.
use Rattle.std.proofs.Common.{◌≡◌, refl, sym, ap, ◌∙◌, subst, ℕ, zero, suc, ◌+◌, Bool, true, false, ◌||◌, List, [], ◌∷◌, ◌++◌, length, take, drop, map, Some, length-append}
use Rattle.std.specs.Prelude.{if◌then◌else◌, filter}
use Rattle.std.specs.List.{list_any, concat}
use Rattle.std.proofs.lemmas.List.{map-append, length-map}
use Rattle.lo_base.specs.declared.reply.Reply.{Reply}
use Rattle.lo_base.specs.declared.reply.Reply.TheVariants.{Counted, Stopped}
use Rattle.lo_base.specs.declared.reply.Word.TheVariants as words
use Rattle.lo_base.specs.declared.request.Request.{Request}
use Rattle.orphan_sweep.specs.declared.act.Scan.{Scan}
use Rattle.orphan_sweep.specs.declared.act.SweepAct.{SweepAct}
use Rattle.orphan_sweep.specs.declared.act.SweepAct.TheVariants as acts
use Rattle.orphan_sweep.specs.declared.act.Told.{Told}
use Rattle.orphan_sweep.specs.declared.act.Told.TheVariants.{Found, Granted, Refused}
use Rattle.orphan_sweep.specs.History.{History, begun, and_told, first_act, next_act, rest_of, removed_of, acts_left, is_commit}
use Rattle.orphan_sweep.specs.History.{acts_of as acts_of_history}
use Rattle.orphan_sweep.specs.Law.{AreAnswers, asked, and_all_told, is_refused, is_report}
use Rattle.orphan_sweep.specs.Place.{is_unlink}
use Rattle.orphan_sweep.specs.Plan.{scan_act, groups_to_remove, removal, acts_given, is_answer_to, unlinks}
use Rattle.orphan_sweep.specs.Rest.{groups}
use Rattle.orphan_sweep.proofs.ActKinds.{the_refused}
use Rattle.orphan_sweep.proofs.AskedActs.{keeps_answers, asks_by_plan, only_scans, stops_at_a_refusal, only_granted}
use Rattle.orphan_sweep.proofs.Histories.{acts-whole, take-more, is_ending}
use Rattle.orphan_sweep.proofs.OneMoreAnswer.{plan_of, rest-kept, left_there, state-granted, state-refused}
use Rattle.lo_machine.specs.SweepRows.{act_of, report, refused_at}
use Rattle.lo_machine.specs.SweepLaw.{Done, acts_of, is_denied, told_by, commits, Sweeping, IsSweeping, IsReported, ReportsAtEnd, RemovesTheRest, OnlyScans, StopsAt, is_stopped, end, done, listed, scans, rest, history}
use Rattle.lo_machine.proofs.SweepActs.{Follows}
use Rattle.lo_machine.proofs.SweepReports.{reported, removes, both_false, told, keeps_history, acts_follow, answers_follow, refused_follow, follows_split, rest_is, next_report, refused_later, none_refused}

-- A dry clean-up is refused nothing.

other_unrefused : (act : SweepAct) (answer : Told) → is_answer_to act answer ≡ true → is_unlink act ≡ false → is_refused answer ≡ false
other_unrefused act (Found numbers) fits other = refl
other_unrefused act Granted fits other = refl
other_unrefused act Refused fits other = absurd (let e : is_unlink act ≡ true = ap is_unlink (the_refused act fits).1 in cc)

no_unlinks : (s : ℕ) (h : History) (ds : List Done) → Follows s h ds → list_any is_unlink (acts_of ds) ≡ false → list_any is_refused (map (told_by s) ds) ≡ false
no_unlinks s h [] follows none = refl
no_unlinks s h (d ∷ ds) follows none =
    let each = both_false (is_unlink d.act) (list_any is_unlink (acts_of ds)) none in
    ap (λ b. b || list_any is_refused (map (told_by s) ds)) (other_unrefused d.act (told_by s d) follows.1 each.0) ∙ no_unlinks s (and_told h (told_by s d)) ds follows.3 each.1

pub none_in_front : (p : SweepAct → Bool) (n : ℕ) (xs : List SweepAct) → list_any p xs ≡ false → list_any p (take n xs) ≡ false
none_in_front p zero xs none = refl
none_in_front p (suc n) [] none = refl
none_in_front p (suc n) (x ∷ xs) none =
    let each = both_false (p x) (list_any p xs) none in
    ap (λ b. b || list_any p (take n xs)) each.0 ∙ none_in_front p n xs each.1

scans_unlink_none : (columns : List Scan) → list_any is_unlink (map scan_act columns ++ acts.Report ∷ []) ≡ false
scans_unlink_none [] = refl
scans_unlink_none (scan ∷ columns) = scans_unlink_none columns

scans_report_none : (columns : List Scan) → list_any is_report (map scan_act columns) ≡ false
scans_report_none [] = refl
scans_report_none (scan ∷ columns) = scans_report_none columns

pub scans_remove_none : (columns : List Scan) → unlinks (map scan_act columns) ≡ []
scans_remove_none [] = refl
scans_remove_none (scan ∷ columns) = scans_remove_none columns

-- where the report at the end is next, all before it is done
at_report : (xs : List SweepAct) (n : ℕ) → list_any is_report xs ≡ false → first_act (drop n (xs ++ acts.Report ∷ [])) ≡ acts.Report → take n (xs ++ acts.Report ∷ []) ≡ xs
at_report [] zero none next = refl
at_report [] (suc zero) none next = cc
at_report [] (suc (suc n)) none next = cc
at_report (act ∷ xs) zero none next = absurd (let e : is_report act ≡ true = ap is_report next in let each = both_false (is_report act) (list_any is_report xs) none in cc)
at_report (act ∷ xs) (suc n) none next =
    ap (λ more. act ∷ more) (at_report xs n (both_false (is_report act) (list_any is_report xs) none).1 next)

module _ (w : Sweeping) (is : IsSweeping w) where
  abbrev s : ℕ
  s = w.session

  abbrev answers : List Told
  answers = map (told_by s) (done w)

  abbrev h0 : History
  h0 = begun w.dry w.limit (listed w) (scans w)

  all_follow : Follows s h0 (done w)
  all_follow = (told w is).follows

  asks_dry : w.dry ≡ true → acts_of (done w) ≡ take (length answers) (map scan_act (scans w) ++ acts.Report ∷ [])
  asks_dry dry =
      let fits : AreAnswers (begun true w.limit (listed w) (scans w)) answers = subst (λ d. AreAnswers (begun d w.limit (listed w) (scans w)) answers) dry (keeps_history w is).answers in
      (keeps_history w is).acts ∙ (ap (λ d. asked (begun d w.limit (listed w) (scans w)) answers) dry ∙ only_scans w.limit (listed w) (scans w) answers fits)

  pub dry_granted : w.dry ≡ true → list_any is_refused answers ≡ false
  dry_granted dry =
      no_unlinks s h0 (done w) all_follow (ap (list_any is_unlink) (asks_dry dry) ∙ none_in_front is_unlink (length answers) (map scan_act (scans w) ++ acts.Report ∷ []) (scans_unlink_none (scans w)))

  pub scans_alone : w.dry ≡ true → act_of (end w).state w.session ≡ acts.Report → OnlyScans w (length (rest w)) × (report (history w) (refused_at (acts_of_history (history w)) (history w).answers) ≡ Counted words.WouldRemove (length (rest w)))
  scans_alone dry next =
      let none : list_any is_refused answers ≡ false = dry_granted dry in
      let plan : acts_of_history (history w) ≡ map scan_act (scans w) ++ acts.Report ∷ [] =
      acts-whole (plan_of (history w)) answers none ∙ ap (λ d. map scan_act (scans w) ++ removal d w.limit (rest_of (history w))) dry in
      let all : take (length answers) (map scan_act (scans w) ++ acts.Report ∷ []) ≡ map scan_act (scans w) =
      at_report (map scan_act (scans w)) (length answers) (scans_report_none (scans w)) (sym (ap (λ as'. first_act (drop (length answers) as')) plan) ∙ next_report w is next) in (
        record {
          dry = dry;
          acts = asks_dry dry ∙ all;
          none = ap unlinks (asks_dry dry ∙ all) ∙ scans_remove_none (scans w);
          counted = refl;
        },
        ap (report (history w)) (none_refused (acts_of_history (history w)) answers none)
            ∙ (ap (λ d. if d then Counted words.WouldRemove (length (rest_of (history w))) else Counted words.Removed (removed_of (history w))) dry
            ∙ ap (λ r. Counted words.WouldRemove (length r)) (rest_is w)),
      )

-- The first act that was refused.

pub record FirstOf (p : Done → Bool) (ds : List Done) : Type 0 where
  pub before : List Done
  pub it : Done
  pub after : List Done
  pub split : ds ≡ before ++ it ∷ after
  pub none : list_any p before ≡ false
  pub is : p it ≡ true

pub the_first : (p : Done → Bool) (ds : List Done) → list_any p ds ≡ true → FirstOf p ds
the_first p [] some = cc
the_first p (d ∷ ds) some = by (p d) refl (λ later. the_first p ds later)
  where
    by : (b : Bool) → p d ≡ b → (list_any p ds ≡ true → FirstOf p ds) → FirstOf p (d ∷ ds)
    by true is more = record { before = []; it = d; after = ds; split = refl; none = refl; is = is }
    by false not more =
        let rest' = more (sym (ap (λ b. b || list_any p ds) not) ∙ some) in
        record {
          before = d ∷ rest'.before;
          it = rest'.it;
          after = rest'.after;
          split = ap (λ xs. d ∷ xs) rest'.split;
          none = ap (λ b. b || list_any p rest'.before) not ∙ rest'.none;
          is = rest'.is;
        }

told_append : (h : History) (xs ys : List Told) → and_all_told h (xs ++ ys) ≡ and_all_told (and_all_told h xs) ys
told_append h [] ys = refl
told_append h (x ∷ xs) ys = told_append (and_told h x) xs ys

pub the_refusal : (answer : Told) → is_refused answer ≡ true → answer ≡ Refused
the_refusal (Found numbers) h = cc
the_refusal Granted h = cc
the_refusal Refused h = refl

-- After a refusal come a rollback and the report.

record IsRollback (s : ℕ) (ds : List Done) : Type 0 where
  it : Done
  is : ds ≡ it ∷ []
  act : it.act ≡ acts.Rollback
  granted : told_by s it ≡ Granted

left_next : (h : History) (answer : Told) (act : SweepAct) (more : List SweepAct) → acts_left h ≡ act ∷ more → is_ending act ≡ true → is_answer_to act answer ≡ true → acts_left (and_told h answer) ≡ more
left_next h answer act more left ending fits =
    let granted : answer ≡ Granted = only_granted act answer ending fits in
    let fits' : is_answer_to (next_act h) Granted ≡ true = ap (λ as'. is_answer_to (first_act as') Granted) left ∙ (ap (is_answer_to act) (sym granted) ∙ fits) in
    ap (λ a. acts_left (and_told h a)) granted ∙ (ap (λ st. st.left) (state-granted h fits') ∙ ap (drop 1) left)

idle_answer : (answer : Told) → is_answer_to acts.Idle answer ≡ false
idle_answer (Found numbers) = refl
idle_answer Granted = refl
idle_answer Refused = refl

one_rollback : (s : ℕ) (h : History) (ds : List Done) → acts_left h ≡ acts.Rollback ∷ acts.Report ∷ [] → Follows s h ds → next_act (and_all_told h (map (told_by s) ds)) ≡ acts.Report → IsRollback s ds
one_rollback s h [] left follows next = absurd (let e : acts.Rollback ≡ acts.Report = sym (ap first_act left) ∙ next in cc)
one_rollback s h (r ∷ []) left follows next =
    let act : r.act ≡ acts.Rollback = follows.0 ∙ ap first_act left in
    record { it = r; is = refl; act = act; granted = only_granted acts.Rollback (told_by s r) refl (ap (λ a. is_answer_to a (told_by s r)) (sym act) ∙ follows.1) }
one_rollback s h (r ∷ q ∷ ds) left follows next =
    let act : r.act ≡ acts.Rollback = follows.0 ∙ ap first_act left in
    let second : acts_left (and_told h (told_by s r)) ≡ acts.Report ∷ [] = left_next h (told_by s r) acts.Rollback (acts.Report ∷ []) left refl (ap (λ a. is_answer_to a (told_by s r)) (sym act) ∙ follows.1) in
    let act' : q.act ≡ acts.Report = follows.3.0 ∙ ap first_act second in
    let third : acts_left (and_told (and_told h (told_by s r)) (told_by s q)) ≡ [] = left_next (and_told h (told_by s r)) (told_by s q) acts.Report [] second refl (ap (λ a. is_answer_to a (told_by s q)) (sym act') ∙ follows.3.1) in
    absurd (over s (and_told (and_told h (told_by s r)) (told_by s q)) ds third follows.3.3 next)
  where
    over : (s : ℕ) (h : History) (ds : List Done) → acts_left h ≡ [] → Follows s h ds → next_act (and_all_told h (map (told_by s) ds)) ≡ acts.Report → ⊥
    over s h [] left follows next = let e : acts.Idle ≡ acts.Report = sym (ap first_act left) ∙ next in cc
    over s h (d ∷ ds) left follows next =
        let idle : d.act ≡ acts.Idle = follows.0 ∙ ap first_act left in
        let e : is_answer_to d.act (told_by s d) ≡ false = ap (λ a. is_answer_to a (told_by s d)) idle ∙ idle_answer (told_by s d) in
        let f = follows.1 in cc

-- The acts that a history fixes, and where the refusal stands among them.

refused_first : (plan : List SweepAct) (before later : List Told) (o : ℕ) → list_any is_refused before ≡ false → first_act (drop (length before) plan) ≡ acts.Unlink o → refused_at (acts_given plan (before ++ Refused ∷ later)) (before ++ Refused ∷ later) ≡ Some o
refused_first [] [] later o none is = cc
refused_first [] (b ∷ before) later o none is = cc
refused_first (act ∷ plan) [] later o none is = rw is refl
refused_first (act ∷ plan) (Refused ∷ before) later o none is = cc
refused_first (act ∷ plan) (Granted ∷ before) later o none is =
    refused_later act Granted (acts_given plan (before ++ Refused ∷ later)) (before ++ Refused ∷ later) refl ∙ refused_first plan before later o none is
refused_first (act ∷ plan) (Found numbers ∷ before) later o none is =
    refused_later act (Found numbers) (acts_given plan (before ++ Refused ∷ later)) (before ++ Refused ∷ later) refl ∙ refused_first plan before later o none is

-- A history that was refused an act: what it did before, and what its report says.

abbrev pub told_so : Bool → ℕ → List ℕ → List Scan → List Told → History
told_so dry limit list columns answers' = record { dry = dry; limit = limit; list = list; scans = columns; answers = answers' }

pub front_done : (h : History) (o : ℕ) → list_any is_refused h.answers ≡ false → is_answer_to (next_act h) Refused ≡ true → next_act h ≡ acts.Unlink o → take (length h.answers) (plan_of h) ++ acts.Unlink o ∷ [] ≡ take (length h.answers + 1) (plan_of h)
front_done h o none fits next =
    let whole : acts_of_history h ≡ plan_of h = acts-whole (plan_of h) h.answers none in
    let there : drop (length h.answers) (plan_of h) ≡ acts.Unlink o ∷ drop 1 (acts_left h) =
    ap (drop (length h.answers)) (sym whole) ∙ (left_there h Refused fits ∙ ap (λ a. a ∷ drop 1 (acts_left h)) next) in
    sym (take-more (plan_of h) h.answers Refused (acts.Unlink o) (drop 1 (acts_left h)) there)
    ∙ ap (λ n. take n (plan_of h)) (length-append h.answers (Refused ∷ []))

next_of_plan : (h : History) (o : ℕ) → list_any is_refused h.answers ≡ false → next_act h ≡ acts.Unlink o → first_act (drop (length h.answers) (plan_of h)) ≡ acts.Unlink o
next_of_plan h o none next = ap (λ as'. first_act (drop (length h.answers) as')) (sym (acts-whole (plan_of h) h.answers none)) ∙ next

-- one refused unlink and its rollback leave the rest
rest_left : (h : History) → rest_of (and_told (and_told h Refused) Granted) ≡ rest_of h
rest_left h = rest-kept (and_told h Refused) Granted refl ∙ rest-kept h Refused refl

pub stops : (w : Sweeping) → IsSweeping w → is_stopped w ≡ true → w.dry ≡ false → act_of (end w).state w.session ≡ acts.Report → (o : ℕ) × (count : ℕ) × StopsAt w o count × (report (history w) (refused_at (acts_of_history (history w)) (history w).answers) ≡ Stopped o count)
stops w is stopped wet next = (
  o,
  count,
  record {
    before = first.before;
    refused = first.it;
    rollback = back.it;
    wet = wet;
    split = first.split ∙ ap (λ xs. first.before ++ first.it ∷ xs) back.is;
    granted = first.none;
    denied = first.is;
    oid_of = unlink.1;
    undoes = back.act;
    front = front;
    counted = counted;
  },
  ap (report (history w)) at ∙ refl,
)
  where
    s : ℕ
    s = w.session

    h0 : History
    h0 = begun w.dry w.limit (listed w) (scans w)

    first : FirstOf (is_denied w.session) (done w)
    first = the_first (is_denied w.session) (done w) stopped

    before : List Told
    before = map (told_by w.session) first.before

    h1 : History
    h1 = and_all_told h0 before

    both : Follows w.session h0 first.before × Follows w.session h1 (first.it ∷ first.after)
    both = follows_split w.session h0 first.before (first.it ∷ first.after) (subst (Follows w.session h0) first.split (told w is).follows)

    refused : told_by w.session first.it ≡ Refused
    refused = the_refusal (told_by w.session first.it) (both.1.2 ∙ first.is)

    unlink : (o : ℕ) × (first.it.act ≡ acts.Unlink o)
    unlink = the_refused first.it.act (ap (is_answer_to first.it.act) (sym refused) ∙ both.1.1)

    o : ℕ
    o = unlink.0

    fits : is_answer_to (next_act h1) Refused ≡ true
    fits = ap (λ a. is_answer_to a Refused) (sym both.1.0) ∙ (ap (is_answer_to first.it.act) (sym refused) ∙ both.1.1)

    later : Follows w.session (and_told h1 Refused) first.after
    later = subst (λ a. Follows w.session (and_told h1 a) first.after) refused both.1.3

    all : map (told_by w.session) (done w) ≡ before ++ Refused ∷ map (told_by w.session) first.after
    all = ap (map (told_by w.session)) first.split ∙ (map-append (told_by w.session) first.before (first.it ∷ first.after) ∙ ap (λ a. before ++ a ∷ map (told_by w.session) first.after) refused)

    ends : history w ≡ and_all_told (and_told h1 Refused) (map (told_by w.session) first.after)
    ends = sym (keeps_answers w.dry w.limit (listed w) (scans w) (map (told_by w.session) (done w))) ∙ (ap (and_all_told h0) all ∙ told_append h0 before (Refused ∷ map (told_by w.session) first.after))

    back : IsRollback w.session first.after
    back = one_rollback w.session (and_told h1 Refused) first.after (ap (λ st. st.left) (state-refused h1 fits)) later (ap next_act (sym ends) ∙ next_report w is next)

    granted_back : map (told_by w.session) first.after ≡ Granted ∷ []
    granted_back = ap (map (told_by w.session)) back.is ∙ ap (λ a. a ∷ []) back.granted

    same_rest : rest_of (history w) ≡ rest_of h1
    same_rest = ap rest_of (ends ∙ ap (and_all_told (and_told h1 Refused)) granted_back) ∙ rest_left h1

    none : list_any is_refused before ≡ false
    none = refused_follow w.session h0 first.before both.0 ∙ first.none

    kept : h1 ≡ told_so w.dry w.limit (listed w) (scans w) before
    kept = keeps_answers w.dry w.limit (listed w) (scans w) before

    next1 : next_act h1 ≡ acts.Unlink o
    next1 = sym both.1.0 ∙ unlink.1

    plan1 : plan_of (told_so w.dry w.limit (listed w) (scans w) before) ≡ map scan_act (scans w) ++ removal false w.limit (rest w)
    plan1 =
        ap (λ r. map scan_act (scans w) ++ removal w.dry w.limit r) (ap rest_of (sym kept) ∙ (sym same_rest ∙ rest_is w))
        ∙ ap (λ d. map scan_act (scans w) ++ removal d w.limit (rest w)) wet

    asks : acts_of first.before ≡ take (length before) (plan_of (told_so w.dry w.limit (listed w) (scans w) before))
    asks =
        acts_follow w.session h0 first.before both.0
        ∙ (asks_by_plan w.dry w.limit (listed w) (scans w) before (answers_follow w.session h0 first.before both.0) none
        ∙ ap (λ h. take (length before) (map scan_act (scans w) ++ removal w.dry w.limit (rest_of h))) kept)

    many : length before ≡ length first.before
    many = length-map first.before (told_by w.session)

    front : acts_of first.before ++ acts.Unlink o ∷ [] ≡ take (length first.before + 1) (map scan_act (scans w) ++ removal false w.limit (rest w))
    front =
        ap (λ xs. xs ++ acts.Unlink o ∷ []) asks
        ∙ (front_done (told_so w.dry w.limit (listed w) (scans w) before) o none (subst (λ h. is_answer_to (next_act h) Refused ≡ true) kept fits) (ap next_act (sym kept) ∙ next1)
        ∙ (ap (λ n. take (n + 1) (plan_of (told_so w.dry w.limit (listed w) (scans w) before))) many ∙ ap (take (length first.before + 1)) plan1))

    count : ℕ
    count = removed_of (history w)

    stop : removed_of (and_all_told (and_told h1 Refused) (map (told_by w.session) first.after)) ≡ length (concat (take (length (filter is_commit (asked h0 before))) (groups_to_remove w.dry w.limit (rest_of (and_all_told (and_told h1 Refused) (map (told_by w.session) first.after))))))
    stop = (stops_at_a_refusal w.dry w.limit (listed w) (scans w) before (map (told_by w.session) first.after) (subst (AreAnswers h0) all (answers_follow w.session h0 (done w) (told w is).follows))).1

    counted : count ≡ length (concat (take (commits first.before) (groups w.limit (rest w))))
    counted =
        ap removed_of ends
        ∙ (stop
        ∙ (ap (λ h. length (concat (take (length (filter is_commit (asked h0 before))) (groups_to_remove w.dry w.limit (rest_of h))))) (sym ends)
        ∙ (ap (λ r. length (concat (take (length (filter is_commit (asked h0 before))) (groups_to_remove w.dry w.limit r)))) (rest_is w)
        ∙ (ap (λ as'. length (concat (take (length (filter is_commit as')) (groups_to_remove w.dry w.limit (rest w))))) (sym (acts_follow w.session h0 first.before both.0))
        ∙ ap (λ d. length (concat (take (commits first.before) (groups_to_remove d w.limit (rest w))))) wet))))

    plan_at_end : plan_of (history w) ≡ plan_of (told_so w.dry w.limit (listed w) (scans w) before)
    plan_at_end = ap (λ r. map scan_act (scans w) ++ removal w.dry w.limit r) (same_rest ∙ ap rest_of kept)

    at : refused_at (acts_of_history (history w)) (history w).answers ≡ Some o
    at =
        ap (λ plan. refused_at (acts_given plan (map (told_by w.session) (done w))) (map (told_by w.session) (done w))) plan_at_end
        ∙ (ap (λ as'. refused_at (acts_given (plan_of (told_so w.dry w.limit (listed w) (scans w) before)) as') as') all
        ∙ refused_first (plan_of (told_so w.dry w.limit (listed w) (scans w) before)) before (map (told_by w.session) first.after) o none
        (next_of_plan (told_so w.dry w.limit (listed w) (scans w) before) o none (ap next_act (sym kept) ∙ next1)))

-- The report.

data Ended (w : Sweeping) (reply : Reply) : Type 0 where
  Removing : w.dry ≡ false → is_stopped w ≡ false → RemovesTheRest w (length (rest w)) → reply ≡ Counted words.Removed (length (rest w)) → Ended w reply
  Scanning : w.dry ≡ true → is_stopped w ≡ false → OnlyScans w (length (rest w)) → reply ≡ Counted words.WouldRemove (length (rest w)) → Ended w reply
  Stopping : (o count : ℕ) → w.dry ≡ false → is_stopped w ≡ true → StopsAt w o count → reply ≡ Stopped o count → Ended w reply

ended : (w : Sweeping) (is : IsSweeping w) → act_of (end w).state w.session ≡ acts.Report → Ended w (report (history w) (refused_at (acts_of_history (history w)) (history w).answers))
ended w is next = by (w.dry) (is_stopped w) refl refl
  where
    by : (dry stopped : Bool) → w.dry ≡ dry → is_stopped w ≡ stopped → Ended w (report (history w) (refused_at (acts_of_history (history w)) (history w).answers))
    by true stopped dry at =
        let it = scans_alone w is dry next in
        Scanning dry (sym (refused_follow w.session _ (done w) (told w is).follows) ∙ dry_granted w is dry) it.0 it.1
    by false false wet granted = let it = removes w is wet granted next in Removing wet granted it.0 it.1
    by false true wet stopped = let it = stops w is stopped wet next in Stopping it.0 it.1 wet stopped it.2 it.3

is_reported : (w : Sweeping) (reply : Reply) → Ended w reply → IsReported w reply
is_reported w reply (Removing wet granted it is) = record {
  removed = λ count says. let same : length (rest w) ≡ count = (let e = sym is ∙ says in cc) in subst (RemovesTheRest w) same it;
  would = λ count says. absurd (let e = sym is ∙ says in cc);
  stopped = λ o count says. absurd (let e = sym is ∙ says in cc);
  dry = λ dry. absurd (let e = sym wet ∙ dry in cc);
  wet = λ _ _. is;
  refused = λ stopped. absurd (let e = sym granted ∙ stopped in cc);
}
is_reported w reply (Scanning dry granted it is) = record {
  removed = λ count says. absurd (let e = sym is ∙ says in cc);
  would = λ count says. let same : length (rest w) ≡ count = (let e = sym is ∙ says in cc) in subst (OnlyScans w) same it;
  stopped = λ o count says. absurd (let e = sym is ∙ says in cc);
  dry = λ _. is;
  wet = λ wet _. absurd (let e = sym wet ∙ dry in cc);
  refused = λ stopped. absurd (let e = sym granted ∙ stopped in cc);
}
is_reported w reply (Stopping o n wet stopped it is) = record {
  removed = λ count says. absurd (let e = sym is ∙ says in cc);
  would = λ count says. absurd (let e = sym is ∙ says in cc);
  stopped = λ o' n' says. let e : Stopped o n ≡ Stopped o' n' = sym is ∙ says in
      let same_o : o ≡ o' = cc in let same_n : n ≡ n' = cc in
      subst (λ k. StopsAt w o' k) same_n (subst (λ k. StopsAt w k n) same_o it);
  dry = λ dry. absurd (let e = sym wet ∙ dry in cc);
  wet = λ _ granted. absurd (let e = sym granted ∙ stopped in cc);
  refused = λ _. (o, n, is);
}

pub reports_at_end : (w : Sweeping) (line : Request) → IsSweeping w → ReportsAtEnd w line
reports_at_end w line is does next = subst (IsReported w) (sym (reported w is line does next)) (is_reported w _ (ended w is next))
