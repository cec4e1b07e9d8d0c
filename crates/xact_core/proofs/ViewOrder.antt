-- How many views are kept, and which one stands at a place.
use Rattle.std.proofs.Common.{ℕ, zero, suc, ◌+◌, ◌-◌, ◌<◌, ◌≤◌, ◌≡◌, ⊎_elim, List, [], ◌∷◌, ◌++◌, length, drop, map, Option, Some, None, refl, ap, sym, subst, ◌∙◌, arith, length-append, drop-cons}
use Rattle.std.specs.Prelude.{slice_get, slice_index_or, sum_by, Contains}
use Rattle.std.proofs.lemmas.Bool.{cases_lt}
use Rattle.std.proofs.lemmas.Grind.{common_steps}
use Rattle.std.proofs.lemmas.List.Sums.{sum_by-cons}
use Rattle.std.proofs.lemmas.Option.{gets, slice_get_within, slice_get-get_or, get_or_from_slice_get, none-some}
use Rattle.lo_model.specs.declared.viewer.Viewer.TheVariants.{Nobody, Below}
use Rattle.xact_core.specs.declared.snapshot.Snapshot.{Snapshot}
use Rattle.xact_core.specs.declared.xacts.Xacts.TheInside.{Inside}
use Rattle.xact_core.specs.Inside.{names_of, seen_of, views_count, views_in}
use Rattle.xact_core.specs.Kept.{view_at, viewer_of, below_views, session_views, sessions_views, kept_views, views_of}
use Rattle.xact_core.specs.Opened.{Opened}
use Rattle.xact_core.proofs.ListPlaces.{append_in, append_here}

length-below_views : (clock s n : ℕ) → length (below_views clock s n) ≡ n
length-below_views clock s zero = refl
length-below_views clock s (suc n) = length-append (below_views clock s n) (view_at clock (Below s (suc n)) ∷ []) ∙ (let before : length (below_views clock s n) ≡ n = length-below_views clock s n in omega arith)

length-session_views : (clock s : ℕ) (names : List (Option (List ℕ))) → length (session_views clock s names) ≡ views_of names
length-session_views clock s [] = refl
length-session_views clock s (name ∷ names) = let below : length (below_views clock s (length (name ∷ names))) ≡ length (name ∷ names) = length-below_views clock s (length (name ∷ names)) in omega arith

pub length-sessions_views : (clock s : ℕ) (sessions : List Opened) → length (sessions_views clock s (map names_of sessions)) ≡ sum_by views_in sessions
length-sessions_views clock s [] = refl
length-sessions_views clock s (x ∷ xs) = length-append (session_views clock s x.names) (sessions_views clock (s + 1) (map names_of xs)) ∙ (let first : length (session_views clock s x.names) ≡ views_of x.names = length-session_views clock s x.names in let others : length (sessions_views clock (s + 1) (map names_of xs)) ≡ sum_by views_in xs = length-sessions_views clock (s + 1) xs in omega (arith, sum_by-cons views_in x xs))

pub length-kept_views : (x : Inside) → length (kept_views (seen_of x)) ≡ views_count x.sessions.items x.held.items
length-kept_views x = let open_ones : length (sessions_views (x.clock + 1) 1 (map names_of x.sessions.items)) ≡ sum_by views_in x.sessions.items = length-sessions_views (x.clock + 1) 1 x.sessions.items in omega (arith, length-append (sessions_views (x.clock + 1) 1 (map names_of x.sessions.items)) x.held.items)

at_front : {A : Type 0} (xs ys : List A) (i : ℕ) → i < length xs → slice_get (xs ++ ys) i ≡ slice_get xs i
at_front xs ys i within = grind (arith, common_steps, gets)

at_back : {A : Type 0} (xs ys : List A) (i : ℕ) → length xs ≤ i → slice_get (xs ++ ys) i ≡ slice_get ys (i - length xs)
at_back xs ys i past = grind (arith, common_steps, gets)

below_at : (clock s n i : ℕ) → i < n → slice_get (below_views clock s n) i ≡ Some (view_at clock (Below s (i + 1)))
below_at clock s zero i within = absurd (omega arith)
below_at clock s (suc n) i within = ⊎_elim (before (below_at clock s n i)) last (cases_lt i n)
  where
    size : length (below_views clock s n) ≡ n
    size = length-below_views clock s n

    before : (i < n → slice_get (below_views clock s n) i ≡ Some (view_at clock (Below s (i + 1)))) → i < n → slice_get (below_views clock s (suc n)) i ≡ Some (view_at clock (Below s (i + 1)))
    before lower less = append_in (below_views clock s n) (view_at clock (Below s (suc n))) i (omega (arith, size)) ∙ lower less

    last : n ≤ i → slice_get (below_views clock s (suc n)) i ≡ Some (view_at clock (Below s (i + 1)))
    last more =
        let here : length (below_views clock s n) ≡ i = omega (arith, size) in
        let level : suc n ≡ i + 1 = omega arith in
        subst (λ (k : ℕ). slice_get (below_views clock s (suc n)) k ≡ Some (view_at clock (Below s (i + 1)))) here (append_here (below_views clock s n) (view_at clock (Below s (suc n))) ∙ ap (λ (k : ℕ). Some (view_at clock (Below s k))) level)

session_at : (clock s : ℕ) (names : List (Option (List ℕ))) (i : ℕ) → i < views_of names → slice_get (session_views clock s names) i ≡ Some (view_at clock (viewer_of s i))
session_at clock s [] i within = absurd (omega arith)
session_at clock s (name ∷ names) zero within = refl
session_at clock s (name ∷ names) (suc i) within =
    let next : i + 1 ≡ suc i = omega arith in
    below_at clock s (length (name ∷ names)) i (omega arith) ∙ ap (λ (k : ℕ). Some (view_at clock (Below s k))) next

-- the views from a session on
from_session : (clock : ℕ) (sessions : List Opened) (n : ℕ) (x : Opened) → n < length sessions → x ≡ slice_index_or sessions n x → sessions_views clock (n + 1) (map names_of (drop n sessions)) ≡ session_views clock (n + 1) x.names ++ sessions_views clock (n + 1 + 1) (map names_of (drop (n + 1) sessions))
from_session clock sessions n x more is =
    let next : suc n ≡ n + 1 = omega arith in
    let front : drop n sessions ≡ x ∷ drop (n + 1) sessions = subst (λ (m : ℕ). drop n sessions ≡ x ∷ drop m sessions) next (subst (λ (y : Opened). drop n sessions ≡ y ∷ drop (suc n) sessions) (sym is) (drop-cons sessions n x more)) in
    ap (λ (xs : List Opened). sessions_views clock (n + 1) (map names_of xs)) front

pub found_in_session : (clock : ℕ) (sessions : List Opened) (n left : ℕ) (x : Opened) → n < length sessions → x ≡ slice_index_or sessions n x → left < views_of x.names → slice_get (sessions_views clock (n + 1) (map names_of (drop n sessions))) left ≡ Some (view_at clock (viewer_of (n + 1) left))
found_in_session clock sessions n left x more is within =
    let size : length (session_views clock (n + 1) x.names) ≡ views_of x.names = length-session_views clock (n + 1) x.names in
    ap (λ (views : List Snapshot). slice_get views left) (from_session clock sessions n x more is) ∙ at_front (session_views clock (n + 1) x.names) _ left (omega arith) ∙ session_at clock (n + 1) x.names left within

pub behind_session : (clock : ℕ) (sessions : List Opened) (n left : ℕ) (x : Opened) → n < length sessions → x ≡ slice_index_or sessions n x → views_of x.names ≤ left → slice_get (sessions_views clock (n + 1 + 1) (map names_of (drop (n + 1) sessions))) (left - views_of x.names) ≡ slice_get (sessions_views clock (n + 1) (map names_of (drop n sessions))) left
behind_session clock sessions n left x more is past =
    let size : length (session_views clock (n + 1) x.names) ≡ views_of x.names = length-session_views clock (n + 1) x.names in
    sym (ap (λ (views : List Snapshot). slice_get views left) (from_session clock sessions n x more is) ∙ at_back (session_views clock (n + 1) x.names) _ left (omega arith) ∙ ap (λ (k : ℕ). slice_get (sessions_views clock (n + 1 + 1) (map names_of (drop (n + 1) sessions))) (left - k)) size)

-- a kept view stands among those of sessions, or among the held ones
pub kept_open : (x : Inside) (k place : ℕ) (v : Snapshot) → k ≡ place + 1 → slice_get (sessions_views (x.clock + 1) 1 (map names_of x.sessions.items)) place ≡ Some v → slice_get (kept_views (seen_of x)) k ≡ Some v
kept_open x k place v at is =
    let next : suc place ≡ k = omega arith in
    let within : place < length (sessions_views (x.clock + 1) 1 (map names_of x.sessions.items)) = slice_get_within _ place v is in
    subst (λ (n : ℕ). slice_get (kept_views (seen_of x)) n ≡ Some v) next (at_front (sessions_views (x.clock + 1) 1 (map names_of x.sessions.items)) x.held.items place within ∙ is)

pub open_past : (x : Inside) (place : ℕ) → slice_get (sessions_views (x.clock + 1) 1 (map names_of x.sessions.items)) place ≡ None → sum_by views_in x.sessions.items ≤ place
open_past x place none = ⊎_elim before (λ past. past) (cases_lt place (sum_by views_in x.sessions.items))
  where
    views : List Snapshot
    views = sessions_views (x.clock + 1) 1 (map names_of x.sessions.items)

    before : place < sum_by views_in x.sessions.items → sum_by views_in x.sessions.items ≤ place
    before less =
        let size : length views ≡ sum_by views_in x.sessions.items = length-sessions_views (x.clock + 1) 1 x.sessions.items in
        absurd (none-some _ (sym none ∙ slice_get-get_or views place (view_at 0 Nobody) (omega arith)))

pub kept_held : (x : Inside) (k place : ℕ) (v : Snapshot) → k ≡ place + 1 → sum_by views_in x.sessions.items ≤ place → slice_get x.held.items (place - sum_by views_in x.sessions.items) ≡ Some v → slice_get (kept_views (seen_of x)) k ≡ Some v
kept_held x k place v at past is =
    let next : suc place ≡ k = omega arith in
    let size : length (sessions_views (x.clock + 1) 1 (map names_of x.sessions.items)) ≡ sum_by views_in x.sessions.items = length-sessions_views (x.clock + 1) 1 x.sessions.items in
    subst (λ (n : ℕ). slice_get (kept_views (seen_of x)) n ≡ Some v) next (at_back (sessions_views (x.clock + 1) 1 (map names_of x.sessions.items)) x.held.items place (omega arith) ∙ ap (λ (n : ℕ). slice_get x.held.items (place - n)) size ∙ is)

-- That a view is kept

pub contains_at : {A : Type 0} (xs : List A) (i : ℕ) (x : A) → slice_get xs i ≡ Some x → Contains xs x
contains_at xs i x is = (i, slice_get_within xs i x is, get_or_from_slice_get xs i x x is)
