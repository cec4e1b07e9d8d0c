-- A part after edits: what does not touch it leaves it, and the pages of all pages stand for the object.
use Rattle.std.proofs.Common.{◌≡◌, ℕ, zero, suc, ◌+◌, ◌*◌, ◌/◌, ◌<◌, ◌≤◌, inl, inr, Bool, true, false, cond, List, [], ◌∷◌, length, Option, Some, None, refl, ap, sym, ◌∙◌, arith}
use Rattle.std.specs.Prelude.{nat_lt, nat_le, ◌&&◌, ◌==◌, if◌then◌else◌, option_map, filter}
use Rattle.std.proofs.lemmas.Bool.{cases_lt, cases_eq, false≢true}
use Rattle.std.proofs.lemmas.Bool.Decides.{nat_tests}
use Rattle.lo_model.specs.declared.viewer.Viewer.{Viewer}
use Rattle.lo_model.specs.Edit.{Deed, Create, Write, Cut, Unlink, Put, Delete, Edit, deeds}
use Rattle.lo_model.specs.Object.{at_size, laid_over, object_after, object_after_all, object_in}
use Rattle.lo_model.specs.Touch.{Page, covers, pages_of}
use Rattle.lo_model.specs.View.{sees, view}
use Rattle.row_versions.specs.Stack.{Each}
use Rattle.row_versions.specs.Stands.{after_all}
use Rattle.lo_model.specs.Descriptor.{bytes_or_none}
use Rattle.lo_pages.specs.Object.{IsObjectAs, IsProper}
use Rattle.lo_pages.specs.Content.{Content, bytes_of, touches_page, touches_object, cuts_at, is_written, written_page, cut_page, after_page, after_head}
use Rattle.lo_pages.specs.Stores.{content_bytes, IsProperEdit}
use Rattle.lo_pages.proofs.Objects.{written_bytes, cut_bytes, object_made, object_cut, object_written}

-- The tests without divisions.

pub span_written : (o p b at count : ℕ) → 0 < count → covers (pages_of p at count) (Page o b) ≡ ((p == o) && is_written b at count)
span_written o p b at zero some = absurd (omega (arith, some))
span_written o p b at (suc more) some = elim (cases_eq p o) [
  | inl is ↦
      let test : (p == o) ≡ true = grind (arith, nat_tests, is) in
      rw test (elim (cases_lt at (2048 * b + 2048)) [
        | inl low ↦
            let a : nat_lt at (2048 * b + 2048) ≡ true = grind (arith, nat_tests, low) in
            let first : at / 2048 ≤ b = omega (arith, low) in
            let b1 : nat_le (at / 2048) b ≡ true = grind (arith, nat_tests, first) in
            rw (a, b1) (elim (cases_lt (2048 * b) (at + suc more)) [
              | inl high ↦
                  let c : nat_lt (2048 * b) (at + suc more) ≡ true = grind (arith, nat_tests, high) in
                  let last : b ≤ (at + more) / 2048 = omega (arith, high) in
                  let b2 : nat_le b ((at + more) / 2048) ≡ true = grind (arith, nat_tests, last) in
                  rw (c, b2) refl
              | inr out ↦
                  let c : nat_lt (2048 * b) (at + suc more) ≡ false = grind (arith, nat_tests, out) in
                  let last : (at + more) / 2048 < b = omega (arith, out) in
                  let b2 : nat_le b ((at + more) / 2048) ≡ false = grind (arith, nat_tests, last) in
                  rw (c, b2) refl
            ])
        | inr out ↦
            let a : nat_lt at (2048 * b + 2048) ≡ false = grind (arith, nat_tests, out) in
            let first : b < at / 2048 = omega (arith, out) in
            let b1 : nat_le (at / 2048) b ≡ false = grind (arith, nat_tests, first) in
            rw (a, b1) refl
      ])
  | inr apart ↦ let test : (p == o) ≡ false = grind (arith, nat_tests, apart) in rw test refl
]

cut_far : (b n : ℕ) → nat_le (n / 2048) b ≡ false → 2048 * b + 2048 ≤ n
cut_far b n not = let more : b < n / 2048 = grind (arith, nat_tests, not) in omega (arith, more)

-- A deed that does not touch a part leaves it.

pub page_spared : (o b : ℕ) (old : Option Content) (c : ℕ) (d : Deed) → IsProper d → touches_page o b d ≡ false → after_page o b old c d ≡ old
page_spared o b old c (Create p) proper not = let test : (p == o) ≡ false = grind (arith, nat_tests, not) in rw test refl
page_spared o b old c (Write p at new) proper not = by_tests (p == o) (is_written b at (length new)) refl refl (sym (span_written o p b at (length new) proper) ∙ not)
  where
    by_tests : (e f : Bool) → (p == o) ≡ e → is_written b at (length new) ≡ f → (e && f) ≡ false → (if e then written_page b c at new old else old) ≡ old
    by_tests true true is at' miss = absurd (false≢true (sym miss))
    by_tests true false is at' miss = rw at' refl
    by_tests false f is at' miss = refl
page_spared o b old c (Cut p n) proper not = by_test (p == o) refl not
  where
    by_test : (e : Bool) → (p == o) ≡ e → (e && nat_le (n / 2048) b) ≡ false → (if e then cut_page b c n old else old) ≡ old
    by_test true is miss =
        let far : 2048 * b + 2048 ≤ n = cut_far b n miss in
        let one : nat_lt n (2048 * b) ≡ false = grind (arith, nat_tests, far) in
        let two : nat_lt n (2048 * b + 2048) ≡ false = grind (arith, nat_tests, far) in
        rw (one, two) refl
    by_test false is miss = refl
page_spared o b old c (Unlink p) proper not = let test : (p == o) ≡ false = grind (arith, nat_tests, not) in rw test refl
page_spared o b old c (Put table id values stored) proper not = refl
page_spared o b old c (Delete table id) proper not = refl

pub head_spared : (o : ℕ) (old : Bool) (c : ℕ) (d : Deed) → touches_object o d ≡ false → after_head o old c d ≡ old
head_spared o old c (Create p) not = rw not refl
head_spared o old c (Write p at new) not = refl
head_spared o old c (Cut p n) not = refl
head_spared o old c (Unlink p) not = rw not refl
head_spared o old c (Put table id values stored) not = refl
head_spared o old c (Delete table id) not = refl

-- a deed on an object as such touches each of its pages
pub object_in_page : (o b : ℕ) (d : Deed) → touches_object o d ≡ true → touches_page o b d ≡ true
object_in_page o b (Create p) is = grind (arith, nat_tests, is)
object_in_page o b (Write p at new) is = absurd (false≢true is)
object_in_page o b (Cut p n) is = absurd (false≢true is)
object_in_page o b (Unlink p) is = grind (arith, nat_tests, is)
object_in_page o b (Put table id values stored) is = absurd (false≢true is)
object_in_page o b (Delete table id) is = absurd (false≢true is)

-- a cut in a page touches it and each above
pub cut_in_page : (o b c : ℕ) (d : Deed) → b ≤ c → cuts_at o b d ≡ true → touches_page o c d ≡ true
cut_in_page o b c (Create p) more is = absurd (false≢true is)
cut_in_page o b c (Write p at new) more is = absurd (false≢true is)
cut_in_page o b c (Cut p n) more is = grind (arith, nat_tests, is, more)
cut_in_page o b c (Unlink p) more is = absurd (false≢true is)
cut_in_page o b c (Put table id values stored) more is = absurd (false≢true is)
cut_in_page o b c (Delete table id) more is = absurd (false≢true is)

-- What a view has of the edits of a part folds to what all that it has folds to.

-- the deed leaves what is at a part
abbrev pub Spares : {S : Type 0} → (S → ℕ → Deed → S) → (touches : Deed → Bool) → Edit Deed → Type 0
Spares {S} after touches e = (old : S) → touches e.deed ≡ false → after old e.clock e.deed ≡ old

pub after_at : {S : Type 0} (after : S → ℕ → Deed → S) (touches : Deed → Bool) (n : ℕ) (viewer : Viewer) (old : S) (ys : List (Edit Deed)) → Each (Spares after touches) ys → after_all after old (view n viewer (filter (λ (e : Edit Deed). touches e.deed) ys)) ≡ after_all after old (view n viewer ys)
after_at after touches n viewer old [] spares = refl
after_at {S} after touches n viewer old (e ∷ es) spares = by_tests (touches e.deed) (sees n viewer e.clock e.owner) refl refl (λ was. after_at after touches n viewer was es spares.1)
  where
    here : List (Edit Deed)
    here = filter (λ (f : Edit Deed). touches f.deed) es

    by_tests : (t b : Bool) → touches e.deed ≡ t → sees n viewer e.clock e.owner ≡ b → ((was : S) → after_all after was (view n viewer here) ≡ after_all after was (view n viewer es)) → after_all after old (view n viewer (cond t (e ∷ here) here)) ≡ after_all after old (cond b (e ∷ view n viewer es) (view n viewer es))
    by_tests true true is seen left = rw seen (left (after old e.clock e.deed))
    by_tests true false is seen left = rw seen (left old)
    by_tests false true is seen left = left old ∙ ap (λ (was : S). after_all after was (view n viewer es)) (sym (spares.0 old is))
    by_tests false false is seen left = left old

pub each_page_spares : (o b : ℕ) (ys : List (Edit Deed)) → Each IsProperEdit ys → Each (Spares (after_page o b) (touches_page o b)) ys
each_page_spares o b [] proper = tt
each_page_spares o b (e ∷ es) proper = (λ old not. page_spared o b old e.clock e.deed proper.0 not, each_page_spares o b es proper.1)

pub each_head_spares : (o : ℕ) (ys : List (Edit Deed)) → Each (Spares (after_head o) (touches_object o)) ys
each_head_spares o [] = tt
each_head_spares o (e ∷ es) = (λ old not. head_spared o old e.clock e.deed not, each_head_spares o es)

-- The pages of all pages stand for the object.

bytes_mapped : (old : Option Content) → bytes_of old ≡ bytes_or_none (option_map content_bytes old)
bytes_mapped None = refl
bytes_mapped (Some page) = refl

written_mapped : (b c at : ℕ) (new : List ℕ) (old : Option Content) → option_map content_bytes (written_page b c at new old) ≡ written_bytes b at new (option_map content_bytes old)
written_mapped b c at new old = by_test (is_written b at (length new)) refl
  where
    by_test : (t : Bool) → is_written b at (length new) ≡ t → option_map content_bytes (written_page b c at new old) ≡ written_bytes b at new (option_map content_bytes old)
    by_test true is = rw (is, bytes_mapped old) refl
    by_test false is = rw is refl

cut_mapped : (b c n : ℕ) (old : Option Content) → option_map content_bytes (cut_page b c n old) ≡ cut_bytes b n (option_map content_bytes old)
cut_mapped b c n old = by_tests (nat_lt n (2048 * b)) (nat_lt n (2048 * b + 2048)) refl refl
  where
    by_tests : (t u : Bool) → nat_lt n (2048 * b) ≡ t → nat_lt n (2048 * b + 2048) ≡ u → option_map content_bytes (cut_page b c n old) ≡ cut_bytes b n (option_map content_bytes old)
    by_tests true u is at = rw is refl
    by_tests false true is at = rw (is, at, bytes_mapped old) refl
    by_tests false false is at = rw (is, at) refl

abbrev pub bytes_of_contents : (ℕ → Option Content) → ℕ → Option (List ℕ)
bytes_of_contents f b = option_map content_bytes (f b)

-- an object, its head and its pages, after one deed
pub as_after : (o : ℕ) (old : Option (List ℕ)) (head : Bool) (f : ℕ → Option Content) (c : ℕ) (d : Deed) → IsProper d → IsObjectAs old head (bytes_of_contents f) → IsObjectAs (object_after o old d) (after_head o head c d) (bytes_of_contents (λ b. after_page o b (f b) c d))
as_after o old head f c (Create p) proper is = by_test (p == o) refl
  where
    by_test : (t : Bool) → (p == o) ≡ t → IsObjectAs (if t then Some [] else old) (if t then true else head) (λ b. option_map content_bytes (if t then None else f b))
    by_test true at = (refl, object_made (λ b. None) (λ b. refl))
    by_test false at = is
as_after o None head f c (Write p at new) proper is = by_test (p == o)
  where
    by_test : (t : Bool) → IsObjectAs (if t then None else None) head (λ b. option_map content_bytes (if t then written_page b c at new (f b) else f b))
    by_test true = is
    by_test false = is
as_after o (Some bytes) head f c (Write p at new) proper is = by_test (p == o)
  where
    by_test : (t : Bool) → IsObjectAs (if t then Some (laid_over at new bytes) else Some bytes) head (λ b. option_map content_bytes (if t then written_page b c at new (f b) else f b))
    by_test true = (is.0, object_written bytes (bytes_of_contents f) (λ b. option_map content_bytes (written_page b c at new (f b))) at new proper is.1 (λ b. written_mapped b c at new (f b)))
    by_test false = is
as_after o None head f c (Cut p n) proper is = by_test (p == o)
  where
    by_test : (t : Bool) → IsObjectAs (if t then None else None) head (λ b. option_map content_bytes (if t then cut_page b c n (f b) else f b))
    by_test true = is
    by_test false = is
as_after o (Some bytes) head f c (Cut p n) proper is = by_test (p == o)
  where
    by_test : (t : Bool) → IsObjectAs (if t then Some (at_size n bytes) else Some bytes) head (λ b. option_map content_bytes (if t then cut_page b c n (f b) else f b))
    by_test true = (is.0, object_cut bytes (bytes_of_contents f) (λ b. option_map content_bytes (cut_page b c n (f b))) n is.1 (λ b. cut_mapped b c n (f b)))
    by_test false = is
as_after o old head f c (Unlink p) proper is = by_test (p == o)
  where
    by_test : (t : Bool) → IsObjectAs (if t then None else old) (if t then false else head) (λ b. option_map content_bytes (if t then None else f b))
    by_test true = refl
    by_test false = is
as_after o old head f c (Put table id values stored) proper is = is
as_after o old head f c (Delete table id) proper is = is

pub as_after_all : (o : ℕ) (old : Option (List ℕ)) (head : Bool) (f : ℕ → Option Content) (ys : List (Edit Deed)) → Each IsProperEdit ys → IsObjectAs old head (bytes_of_contents f) → IsObjectAs (object_after_all o old (deeds ys)) (after_all (after_head o) head ys) (bytes_of_contents (λ b. after_all (after_page o b) (f b) ys))
as_after_all o old head f [] proper is = is
as_after_all o old head f (e ∷ es) proper is = as_after_all o (object_after o old e.deed) (after_head o head e.clock e.deed) (λ b. after_page o b (f b) e.clock e.deed) es proper.1 (as_after o old head f e.clock e.deed proper.0 is)

pub as_made : (o : ℕ) (ys : List (Edit Deed)) → Each IsProperEdit ys → IsObjectAs (object_in o ys) (after_all (after_head o) false ys) (bytes_of_contents (λ b. after_all (after_page o b) None ys))
as_made o ys proper = as_after_all o None false (λ b. None) ys proper refl
