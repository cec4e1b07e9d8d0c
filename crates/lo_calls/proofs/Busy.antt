-- Who is busy with one edit, or with a creation and a write of the same object.
use Rattle.std.proofs.Common.{◌≡◌, ◌⊎◌, inl, inr, ℕ, Bool, true, false, min, List, [], ◌∷◌, Option, Some, None, refl, ap, sym, ◌∙◌, arith}
use Rattle.std.proofs.lemmas.Bool.Decides.{nat_tests}
use Rattle.lo_model.specs.Edit.{Deed, Create, Write, Edit}
use Rattle.lo_model.specs.Touch.{Touched, Nothing, Pages, PagesFrom, WholeObject, RowOf, RowsOf, touched, meets, lower_of, holder_of, busy_with}
use Rattle.lo_pages.specs.Outcome.{held_by}
use Rattle.lo_calls.specs.ObjectRows.{number_or_0, writes}
use Rattle.lo_calls.specs.Row.{Here}
use Rattle.lo_calls.specs.Terms.{held_by_session, busy_for}

pub held_alike : (holder : Option ℕ) → held_by_session holder ≡ held_by holder
held_alike None = refl
held_alike (Some s) = refl

lower_none : (holder : Option ℕ) → lower_of holder None ≡ holder
lower_none None = refl
lower_none (Some s) = refl

pub busy_one : (here : Here) (deed : Deed) → busy_for here (deed ∷ []) ≡ held_by (busy_with here.session (touched deed) here.edits)
busy_one here deed = ap held_by_session (lower_none (busy_with here.session (touched deed) here.edits)) ∙ held_alike (busy_with here.session (touched deed) here.edits)

-- nobody is in the way of nothing
busy_nothing : (s : ℕ) (edits : List (Edit Deed)) → busy_with s Nothing edits ≡ None
busy_nothing s [] = refl
busy_nothing s (e ∷ edits) = busy_nothing s edits

pub busy_writing : (here : Here) (o at : ℕ) (bytes : List ℕ) → busy_for here (writes o at bytes) ≡ held_by (busy_with here.session (touched (Write o at bytes)) here.edits)
busy_writing here o at [] = sym (ap held_by (busy_nothing here.session here.edits))
busy_writing here o at (b ∷ bytes) = busy_one here (Write o at (b ∷ bytes))

-- whoever has a page of an object has a part of the whole object

page_of_whole : (o first last : ℕ) (t : Touched) → meets (Pages o first last) t ≡ true → meets (WholeObject o) t ≡ true
page_of_whole o f l Nothing is = cc
page_of_whole o f l (Pages p g m) is = grind (arith, nat_tests, is)
page_of_whole o f l (PagesFrom p g) is = grind (arith, nat_tests, is)
page_of_whole o f l (WholeObject p) is = grind (arith, nat_tests, is)
page_of_whole o f l (RowOf t i) is = cc
page_of_whole o f l (RowsOf t) is = cc

lower_twice : (p : ℕ) → min p p ≡ p
lower_twice p = omega arith

lower_first : (p c : ℕ) → min (min p c) p ≡ min p c
lower_first p c = omega arith

lower_more : (p c d : ℕ) → min c d ≡ c → min (min p c) d ≡ min p c
lower_more p c d is = omega (arith, is)

lower_both : (p c d : ℕ) → min c d ≡ c → min (min p c) (min p d) ≡ min p c
lower_both p c d is = omega (arith, is)

lowest : (c d : ℕ) → lower_of (Some c) (Some d) ≡ Some c → min c d ≡ c
lowest c d is = ap number_or_0 is

-- one more of the edits, which holds what it held of the first, and of the second all or nothing
absorbed : (h k a b : Option ℕ) → (k ≡ None) ⊎ (k ≡ h) → lower_of a b ≡ a → lower_of (lower_of h a) (lower_of k b) ≡ lower_of h a
absorbed None None a b some rest = rest
absorbed None (Some q) a b (inl is) rest = cc
absorbed None (Some q) a b (inr is) rest = cc
absorbed (Some p) k None None (inl is) rest = rw is refl
absorbed (Some p) k None None (inr is) rest = rw is (ap Some (lower_twice p))
absorbed (Some p) k None (Some d) some rest = cc
absorbed (Some p) k (Some c) None (inl is) rest = rw is refl
absorbed (Some p) k (Some c) None (inr is) rest = rw is (ap Some (lower_first p c))
absorbed (Some p) k (Some c) (Some d) (inl is) rest = rw is (ap Some (lower_more p c d (lowest c d rest)))
absorbed (Some p) k (Some c) (Some d) (inr is) rest = rw is (ap Some (lower_both p c d (lowest c d rest)))

covered : (s : ℕ) (a b : Touched) → ((t : Touched) → meets b t ≡ true → meets a t ≡ true) → (edits : List (Edit Deed)) → lower_of (busy_with s a edits) (busy_with s b edits) ≡ busy_with s a edits
covered s a b within [] = refl
covered s a b within (e ∷ edits) = absorbed (holder_of s a e) (holder_of s b e) (busy_with s a edits) (busy_with s b edits) (by_test (meets b (touched e.deed)) refl) (covered s a b within edits)
  where
    by_test : (t : Bool) → meets b (touched e.deed) ≡ t → (holder_of s b e ≡ None) ⊎ (holder_of s b e ≡ holder_of s a e)
    by_test false is = inl (rw is refl)
    by_test true is = inr (rw (is, within (touched e.deed) is) refl)

pub busy_creating : (here : Here) (o : ℕ) (bytes : List ℕ) → busy_for here (Create o ∷ writes o 0 bytes) ≡ held_by (busy_with here.session (touched (Create o)) here.edits)
busy_creating here o [] = busy_one here (Create o)
busy_creating here o (b ∷ bytes) =
    let whole : lower_of (busy_with here.session (WholeObject o) here.edits) (busy_with here.session (touched (Write o 0 (b ∷ bytes))) here.edits) ≡ busy_with here.session (WholeObject o) here.edits = covered here.session (WholeObject o) (touched (Write o 0 (b ∷ bytes))) (page_of_whole o _ _) here.edits in
    ap held_by_session (ap (lower_of (busy_with here.session (WholeObject o) here.edits)) (lower_none (busy_with here.session (touched (Write o 0 (b ∷ bytes))) here.edits)) ∙ whole) ∙ held_alike (busy_with here.session (WholeObject o) here.edits)
