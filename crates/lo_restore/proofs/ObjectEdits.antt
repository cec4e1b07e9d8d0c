-- What edits that a session makes now show it of objects, and that they are in nobody's way.
use Rattle.std.proofs.Common.{◌≡◌, ℕ, ◌+◌, ◌≤◌, Bool, true, false, ◌==◌, List, [], ◌∷◌, ◌++◌, length, Option, Some, None, refl, sym, ap, ◌∙◌, arith, append_assoc}
use Rattle.std.specs.Prelude.{is_some, option_map, filter, nat_lt, if◌then◌else◌}
use Rattle.std.proofs.lemmas.Bool.Decides.{nat_tests}
use Rattle.std.proofs.lemmas.List.{map-append}
use Rattle.std.proofs.lemmas.List.Elements.{filter-append}
use Rattle.lo_model.specs.declared.owner.Owner.{Owner}
use Rattle.lo_model.specs.declared.owner.Owner.TheVariants.{Running}
use Rattle.lo_model.specs.declared.viewer.Viewer.TheVariants.{Whole}
use Rattle.lo_model.specs.Edit.{Deed, Create, Write, Cut, Edit, deeds, edits_by}
use Rattle.lo_model.specs.Object.{object_after, object_after_all, object_in, laid_over, at_size}
use Rattle.lo_model.specs.Touch.{Touched, touched, meets, other_session, lower_of, holder_of, busy_with}
use Rattle.lo_model.specs.View.{sees_edit, current_view}
use Rattle.lo_pages.specs.Outcome.{has_now}
use Rattle.row_versions.specs.Stands.{lowest_other}
use Rattle.lo_restore.specs.Objects.{now_by}
use Rattle.xact_core.specs.Transactions.{Transactions, levels_of}

-- ---- who is in the way

first_none : (a b : Option ℕ) → lower_of a b ≡ None → a ≡ None
first_none None b is = refl
first_none (Some x) None is = is
first_none (Some x) (Some y) is = cc

second_none : (a b : Option ℕ) → lower_of a b ≡ None → b ≡ None
second_none None b is = is
second_none (Some x) None is = refl
second_none (Some x) (Some y) is = cc

both_none : (a b : Option ℕ) → a ≡ None → b ≡ None → lower_of a b ≡ None
both_none a b first second = rw (first, second) refl

-- edits none of which is another session's are not in its way
pub busy_none : (s : ℕ) (wanted : Touched) (ys : List (Edit Deed)) → lowest_other s ys ≡ None → busy_with s wanted ys ≡ None
busy_none s wanted [] free = refl
busy_none s wanted (e ∷ ys) free = both_none (holder_of s wanted e) (busy_with s wanted ys) (here (meets wanted (touched e.deed)) (first_none (other_session s e.owner) (lowest_other s ys) free)) (busy_none s wanted ys (second_none (other_session s e.owner) (lowest_other s ys) free))
  where
    here : (r : Bool) → other_session s e.owner ≡ None → (if r then other_session s e.owner else None) ≡ None
    here true is = is
    here false is = refl

own_free : (s level clock : ℕ) (ds : List Deed) → lowest_other s (edits_by clock (Running s level) ds) ≡ None
own_free s level clock [] = refl
own_free s level clock (d ∷ ds) = both_none (other_session s (Running s level)) (lowest_other s (edits_by clock (Running s level) ds)) (let same : (s == s) ≡ true = grind (arith, nat_tests) in rw same refl) (own_free s level clock ds)

free_before : (s level clock : ℕ) (ds : List Deed) (ys : List (Edit Deed)) → lowest_other s ys ≡ None → lowest_other s (ys ++ edits_by clock (Running s level) ds) ≡ None
free_before s level clock ds [] free = own_free s level clock ds
free_before s level clock ds (e ∷ ys) free = both_none (other_session s e.owner) (lowest_other s (ys ++ edits_by clock (Running s level) ds)) (first_none (other_session s e.owner) (lowest_other s ys) free) (free_before s level clock ds ys (second_none (other_session s e.owner) (lowest_other s ys) free))

pub free_more : (x : Transactions) (s : ℕ) (ds : List Deed) (ys : List (Edit Deed)) → lowest_other s ys ≡ None → lowest_other s (ys ++ now_by x s ds) ≡ None
free_more x s ds ys free = free_before s (length (levels_of x s)) x.clock ds ys free

-- ---- what a session is shown

all_seen : (clock s level : ℕ) (ds : List Deed) → filter (sees_edit (clock + 1) (Whole s)) (edits_by clock (Running s level) ds) ≡ edits_by clock (Running s level) ds
all_seen clock s level [] = refl
all_seen clock s level (d ∷ ds) =
    let past : nat_lt clock (clock + 1) ≡ true = grind (arith, nat_tests) in
    let same : (s == s) ≡ true = grind (arith, nat_tests) in
    rw (past, same) (ap (λ (es : List (Edit Deed)). record { clock = clock; owner = Running s level; deed = d } ∷ es) (all_seen clock s level ds))

deeds_by : (clock : ℕ) (w : Owner) (ds : List Deed) → deeds (edits_by clock w ds) ≡ ds
deeds_by clock w [] = refl
deeds_by clock w (d ∷ ds) = ap (λ (es : List Deed). d ∷ es) (deeds_by clock w ds)

after_append : (o : ℕ) (old : Option (List ℕ)) (ds es : List Deed) → object_after_all o old (ds ++ es) ≡ object_after_all o (object_after_all o old ds) es
after_append o old [] es = refl
after_append o old (d ∷ ds) es = after_append o (object_after o old d) ds es

-- an object after these edits is what they make of the object before
pub object_now : (x : Transactions) (s o : ℕ) (ds : List Deed) (ys : List (Edit Deed)) → object_in o (current_view (x.clock + 1) s (ys ++ now_by x s ds)) ≡ object_after_all o (object_in o (current_view (x.clock + 1) s ys)) ds
object_now x s o ds ys =
    ap (λ es. object_after_all o None (deeds es)) (filter-append (sees_edit (x.clock + 1) (Whole s)) ys (now_by x s ds) ∙ ap (λ es. current_view (x.clock + 1) s ys ++ es) (all_seen x.clock s (length (levels_of x s)) ds))
    ∙ (ap (object_after_all o None) (map-append (λ (e : Edit Deed). e.deed) (current_view (x.clock + 1) s ys) (now_by x s ds) ∙ ap (λ es. deeds (current_view (x.clock + 1) s ys) ++ es) (deeds_by x.clock (Running s (length (levels_of x s))) ds))
    ∙ after_append o None (deeds (current_view (x.clock + 1) s ys)) ds)

made_there : (b : Bool) (old : Option (List ℕ)) → b ≡ true → is_some (if b then Some [] else old) ≡ true
made_there true old is = refl
made_there false old is = cc

mapped_there : (f : List ℕ → List ℕ) (b : Bool) (old : Option (List ℕ)) → is_some (if b then option_map f old else old) ≡ is_some old
mapped_there f true None = refl
mapped_there f true (Some x) = refl
mapped_there f false old = refl

-- a creation shows its object and no other more; a write and a cut show as many as before
pub created_now : (x : Transactions) (s o : ℕ) (ys : List (Edit Deed)) → has_now x s (ys ++ now_by x s (Create o ∷ [])) o ≡ true
created_now x s o ys = ap is_some (object_now x s o (Create o ∷ []) ys) ∙ made_there (o == o) (object_in o (current_view (x.clock + 1) s ys)) (let same : (o == o) ≡ true = grind (arith, nat_tests) in same)

pub not_created : (x : Transactions) (s p o : ℕ) (ys : List (Edit Deed)) → p + 1 ≤ o → has_now x s (ys ++ now_by x s (Create p ∷ [])) o ≡ has_now x s ys o
not_created x s p o ys above = ap is_some (object_now x s o (Create p ∷ []) ys) ∙ ap (λ b. is_some (if b then Some [] else object_in o (current_view (x.clock + 1) s ys))) (let other : (p == o) ≡ false = grind (arith, nat_tests, above) in other)

pub written_now : (x : Transactions) (s p at o : ℕ) (bytes : List ℕ) (ys : List (Edit Deed)) → has_now x s (ys ++ now_by x s (Write p at bytes ∷ [])) o ≡ has_now x s ys o
written_now x s p at o bytes ys = ap is_some (object_now x s o (Write p at bytes ∷ []) ys) ∙ mapped_there (laid_over at bytes) (p == o) (object_in o (current_view (x.clock + 1) s ys))

pub cut_now : (x : Transactions) (s p size o : ℕ) (ys : List (Edit Deed)) → has_now x s (ys ++ now_by x s (Cut p size ∷ [])) o ≡ has_now x s ys o
cut_now x s p size o ys = ap is_some (object_now x s o (Cut p size ∷ []) ys) ∙ mapped_there (at_size size) (p == o) (object_in o (current_view (x.clock + 1) s ys))

-- edits of deeds one behind the other
edits_both : (clock : ℕ) (w : Owner) (ds es : List Deed) → edits_by clock w (ds ++ es) ≡ edits_by clock w ds ++ edits_by clock w es
edits_both clock w [] es = refl
edits_both clock w (d ∷ ds) es = ap (λ (more : List (Edit Deed)). record { clock = clock; owner = w; deed = d } ∷ more) (edits_both clock w ds es)

pub now_both : (x : Transactions) (s : ℕ) (ys : List (Edit Deed)) (ds es : List Deed) → (ys ++ now_by x s ds) ++ now_by x s es ≡ ys ++ now_by x s (ds ++ es)
now_both x s ys ds es = append_assoc ys (now_by x s ds) (now_by x s es) ∙ ap (λ more. ys ++ more) (sym (edits_both x.clock (Running s (length (levels_of x s))) ds es))
