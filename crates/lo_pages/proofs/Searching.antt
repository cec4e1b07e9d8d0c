-- The three searches find just the session that a request is busy with.
use Rattle.std.proofs.Common.{◌≡◌, ℕ, zero, suc, ◌+◌, ◌-◌, ◌/◌, ◌<◌, ◌≤◌, inl, inr, ◌⊎◌, max, Bool, true, false, cond, List, [], ◌∷◌, length, Option, Some, None, refl, ap, sym, subst, ◌∙◌, arith}
use Rattle.std.specs.Prelude.{◌||◌, ◌&&◌, ◌==◌, nat_le, filter, if◌then◌else◌}
use Rattle.std.proofs.lemmas.Bool.{false≢true, cases_lt, cases_eq, or_cases, or_left, or_right}
use Rattle.std.proofs.lemmas.Bool.Decides.{nat_tests}
use Rattle.lo_model.specs.declared.viewer.Viewer.{Viewer}
use Rattle.lo_model.specs.declared.viewer.Viewer.TheVariants.{Whole}
use Rattle.lo_model.specs.Edit.{Deed, Write, Edit}
use Rattle.lo_model.specs.Touch.{Touched, Pages, PagesFrom, WholeObject, Part, Page, Object, RowAt, covers, touched, pages_of, meets, SharesPart, other_session, lower_of, busy_with}
use Rattle.lo_model.proofs.TouchLaws.{met, shared}
use Rattle.xact_core.specs.Transactions.{Transactions}
use Rattle.row_versions.specs.Vacuum.{is_open_to, any_open}
use Rattle.row_versions.specs.Stands.{standing, lowest_other}
use Rattle.row_versions.proofs.Lowest.{IsLowest, lowest_is, lowest_same, lowest_joined}
use Rattle.lo_pages.specs.Content.{Content, touches_page, at_page}
use Rattle.lo_pages.specs.Stores.{Stores, cut_open, open_at, PagesStand}
use Rattle.lo_pages.specs.Calls.{pages_open, searched, pages_lowest, cuts_lowest, search, meeting, NothingAbove, IsFrom, Spans}

both_true : (a b : Bool) → (a ≡ true → b ≡ true) → (b ≡ true → a ≡ true) → a ≡ b
both_true true true f g = refl
both_true false false f g = refl
both_true true false f g = sym (f refl)
both_true false true f g = g refl

-- a wider test keeps what is opens
any_more : (viewer : Viewer) (f g : Deed → Bool) → ((d : Deed) → g d ≡ true → f d ≡ true) → (ys : List (Edit Deed)) → any_open viewer (filter (λ (e : Edit Deed). g e.deed) ys) ≡ true → any_open viewer (filter (λ (e : Edit Deed). f e.deed) ys) ≡ true
any_more viewer f g more [] is = is
any_more viewer f g more (e ∷ es) is = by_tests (f e.deed) (g e.deed) (more e.deed) is (any_more viewer f g more es)
  where
    fs : List (Edit Deed)
    fs = filter (λ (d : Edit Deed). f d.deed) es

    gs : List (Edit Deed)
    gs = filter (λ (d : Edit Deed). g d.deed) es

    by_open : (a : Bool) → (a || any_open viewer gs) ≡ true → (any_open viewer gs ≡ true → any_open viewer fs ≡ true) → (a || any_open viewer fs) ≡ true
    by_open true at left = refl
    by_open false at left = left at

    by_tests : (a b : Bool) → (b ≡ true → a ≡ true) → any_open viewer (cond b (e ∷ gs) gs) ≡ true → (any_open viewer gs ≡ true → any_open viewer fs ≡ true) → any_open viewer (cond a (e ∷ fs) fs) ≡ true
    by_tests true true m at left = by_open (is_open_to viewer e.owner) at left
    by_tests true false m at left = or_right (is_open_to viewer e.owner) (any_open viewer fs) (left at)
    by_tests false true m at left = absurd (false≢true (m refl))
    by_tests false false m at left = left at

-- what touches an object as such touches each of its pages
covers_object : (wanted : Touched) (o b : ℕ) → covers wanted (Object o) ≡ true → covers wanted (Page o b) ≡ true
covers_object (WholeObject p) o b is = is
covers_object (Pages p f l) o b is = absurd (false≢true is)
covers_object (PagesFrom p f) o b is = absurd (false≢true is)
covers_object (Rattle.lo_model.specs.Touch.RowOf t i) o b is = absurd (false≢true is)
covers_object (Rattle.lo_model.specs.Touch.RowsOf t) o b is = absurd (false≢true is)
covers_object Rattle.lo_model.specs.Touch.Nothing o b is = absurd (false≢true is)

object_at_page : (o b : ℕ) (d : Deed) → covers (touched d) (Object o) ≡ true → touches_page o b d ≡ true
object_at_page o b d is = covers_object (touched d) o b is

at_part : Part → List (Edit Deed) → List (Edit Deed)
at_part part ys = filter (λ (e : Edit Deed). covers (touched e.deed) part) ys

meets_at : (viewer : Viewer) (wanted : Touched) (o b : ℕ) (ys : List (Edit Deed)) → covers wanted (Page o b) ≡ true → any_open viewer (at_page o b ys) ≡ true → any_open viewer (meeting wanted ys) ≡ true
meets_at viewer wanted o b ys here is = any_more viewer (λ d. meets wanted (touched d)) (touches_page o b) (λ d at. met wanted (touched d) (Page o b) here at) ys is

pub record OpenPart (viewer : Viewer) (wanted : Touched) (ys : List (Edit Deed)) : Type 0 where
  pub part : Part
  pub wanted_there : covers wanted part ≡ true
  pub open_there : any_open viewer (filter (λ (e : Edit Deed). covers (touched e.deed) part) ys) ≡ true

open_part : (viewer : Viewer) (wanted : Touched) (ys : List (Edit Deed)) → any_open viewer (meeting wanted ys) ≡ true → OpenPart viewer wanted ys
open_part viewer wanted [] is = absurd (false≢true is)
open_part viewer wanted (e ∷ es) is = by_meets (meets wanted (touched e.deed)) refl is (open_part viewer wanted es)
  where
    more : OpenPart viewer wanted es → OpenPart viewer wanted (e ∷ es)
    more rest = record { part = rest.part; wanted_there = rest.wanted_there; open_there = by_touch (covers (touched e.deed) rest.part) }
      where
        by_touch : (b : Bool) → any_open viewer (cond b (e ∷ filter (λ (f : Edit Deed). covers (touched f.deed) rest.part) es) (filter (λ (f : Edit Deed). covers (touched f.deed) rest.part) es)) ≡ true
        by_touch true = or_right (is_open_to viewer e.owner) (any_open viewer (filter (λ (f : Edit Deed). covers (touched f.deed) rest.part) es)) rest.open_there
        by_touch false = rest.open_there

    this : meets wanted (touched e.deed) ≡ true → is_open_to viewer e.owner ≡ true → OpenPart viewer wanted (e ∷ es)
    this at opens = at_shared (shared wanted (touched e.deed) at)
      where
        at_shared : SharesPart wanted (touched e.deed) → OpenPart viewer wanted (e ∷ es)
        at_shared both = record { part = both.part; wanted_there = both.first; open_there = rw (both.second, opens) refl }

    by_open : (a : Bool) → is_open_to viewer e.owner ≡ a → meets wanted (touched e.deed) ≡ true → (a || any_open viewer (meeting wanted es)) ≡ true → (any_open viewer (meeting wanted es) ≡ true → OpenPart viewer wanted es) → OpenPart viewer wanted (e ∷ es)
    by_open true opens at some left = this at opens
    by_open false opens at some left = more (left some)

    by_meets : (b : Bool) → meets wanted (touched e.deed) ≡ b → any_open viewer (cond b (e ∷ meeting wanted es) (meeting wanted es)) ≡ true → (any_open viewer (meeting wanted es) ≡ true → OpenPart viewer wanted es) → OpenPart viewer wanted (e ∷ es)
    by_meets true at some left = by_open (is_open_to viewer e.owner) refl at some left
    by_meets false at some left = more (left some)

-- spans of keys

module _ {P : Type 0} (viewer : Viewer) (x : Transactions) (stores : Stores P) (o : ℕ) where
  pub record OpenPage (first count : ℕ) : Type 0 where
    pub number : ℕ
    pub low : first ≤ number
    pub high : number < first + count
    pub opens : any_open viewer (standing x (stores.pages o number)) ≡ true

  pub page_from : (first count : ℕ) → pages_open viewer x stores o first count ≡ true → OpenPage first count
  page_from first zero is = absurd (false≢true is)
  page_from first (suc n) is = by_open (any_open viewer (standing x (stores.pages o first))) refl is (page_from (first + 1) n)
    where
      by_open : (a : Bool) → any_open viewer (standing x (stores.pages o first)) ≡ a → (a || pages_open viewer x stores o (first + 1) n) ≡ true → (pages_open viewer x stores o (first + 1) n ≡ true → OpenPage (first + 1) n) → OpenPage first (suc n)
      by_open true opens some left = record { number = first; low = omega arith; high = omega arith; opens = opens }
      by_open false opens some left = let rest : OpenPage (first + 1) n = left some in record { number = rest.number; low = omega (arith, rest.low); high = omega (arith, rest.high); opens = rest.opens }

  pub page_to : (first count b : ℕ) → first ≤ b → b < first + count → any_open viewer (standing x (stores.pages o b)) ≡ true → pages_open viewer x stores o first count ≡ true
  page_to first zero b low high opens = absurd (omega (arith, low, high))
  page_to first (suc n) b low high opens = by_place (cases_eq first b) (λ more. page_to (first + 1) n b more (omega (arith, high)) opens)
    where
      by_place : (first ≡ b) ⊎ (first ≡ b → ⊥) → (first + 1 ≤ b → pages_open viewer x stores o (first + 1) n ≡ true) → pages_open viewer x stores o first (suc n) ≡ true
      by_place (inl is) left = or_left (any_open viewer (standing x (stores.pages o first))) (pages_open viewer x stores o (first + 1) n) (subst (λ (k : ℕ). any_open viewer (standing x (stores.pages o k)) ≡ true) (sym is) opens)
      by_place (inr apart) left = or_right (any_open viewer (standing x (stores.pages o first))) (pages_open viewer x stores o (first + 1) n) (left (omega (arith, low, apart)))

  pub record OpenCut (count : ℕ) : Type 0 where
    pub number : ℕ
    pub high : number < count
    pub opens : any_open viewer (standing x (stores.cuts o number)) ≡ true

  pub cut_from : (count : ℕ) → cut_open viewer x stores o count ≡ true → OpenCut count
  cut_from zero is = absurd (false≢true is)
  cut_from (suc n) is = by_case (or_cases (cut_open viewer x stores o n) (any_open viewer (standing x (stores.cuts o n))) is) (cut_from n)
    where
      by_case : (cut_open viewer x stores o n ≡ true) ⊎ (any_open viewer (standing x (stores.cuts o n)) ≡ true) → (cut_open viewer x stores o n ≡ true → OpenCut n) → OpenCut (suc n)
      by_case (inl some) left = let rest : OpenCut n = left some in record { number = rest.number; high = omega (arith, rest.high); opens = rest.opens }
      by_case (inr opens) left = record { number = n; high = omega arith; opens = opens }

  pub cut_to : (count b : ℕ) → b < count → any_open viewer (standing x (stores.cuts o b)) ≡ true → cut_open viewer x stores o count ≡ true
  cut_to zero b high opens = absurd (omega (arith, high))
  cut_to (suc n) b high opens = by_place (cases_lt b n) (λ lower. cut_to n b lower opens)
    where
      by_place : (b < n) ⊎ (n ≤ b) → (b < n → cut_open viewer x stores o n ≡ true) → cut_open viewer x stores o (suc n) ≡ true
      by_place (inl lower) left = or_left (cut_open viewer x stores o n) (any_open viewer (standing x (stores.cuts o n))) (left lower)
      by_place (inr least) left = let is : b ≡ n = omega (arith, high, least) in or_right (cut_open viewer x stores o n) (any_open viewer (standing x (stores.cuts o n))) (subst (λ (k : ℕ). any_open viewer (standing x (stores.cuts o k)) ≡ true) is opens)

module _ {P : Type 0} (value : ℕ → P → Option Content) (x : Transactions) (stores : Stores P) (ys : List (Edit Deed)) (stands : PagesStand value x stores ys) (wanted : Touched) (o first last : ℕ) (spans : Spans stores wanted o first last) where
  count : ℕ
  count = suc last - first

  open_to : (viewer : Viewer) (b : ℕ) → covers wanted (Page o b) ≡ true → open_at viewer x stores o b ≡ true → any_open viewer (meeting wanted ys) ≡ true
  open_to viewer b here opens = meets_at viewer wanted o b ys here (sym ((stands.busy o b).alike viewer) ∙ opens)

  searched_to : (viewer : Viewer) → searched viewer x stores o first (suc last - first) (suc last) ≡ true → any_open viewer (meeting wanted ys) ≡ true
  searched_to viewer is = by_key (or_cases (any_open viewer (standing x (stores.objects o))) _ is)
    where
      by_page : OpenPage viewer x stores o first (suc last - first) → any_open viewer (meeting wanted ys) ≡ true
      by_page page = open_to viewer page.number (spans.within page.number page.low (omega (arith, page.high, spans.order))) (or_right (any_open viewer (standing x (stores.objects o))) _ (or_left (any_open viewer (standing x (stores.pages o page.number))) _ page.opens))

      by_cut : OpenCut viewer x stores o (suc last) → any_open viewer (meeting wanted ys) ≡ true
      by_cut cut =
          let part : ℕ = max cut.number first in
          open_to viewer part (spans.within part (omega arith) (omega (arith, cut.high, spans.order)))
          (or_right (any_open viewer (standing x (stores.objects o))) _ (or_right (any_open viewer (standing x (stores.pages o part))) _ (cut_to viewer x stores o (suc part) cut.number (omega arith) cut.opens)))

      by_rest : (pages_open viewer x stores o first (suc last - first) ≡ true) ⊎ (cut_open viewer x stores o (suc last) ≡ true) → any_open viewer (meeting wanted ys) ≡ true
      by_rest (inl pages) = by_page (page_from viewer x stores o first (suc last - first) pages)
      by_rest (inr cuts) = by_cut (cut_from viewer x stores o (suc last) cuts)

      by_key : (any_open viewer (standing x (stores.objects o)) ≡ true) ⊎ ((pages_open viewer x stores o first (suc last - first) || cut_open viewer x stores o (suc last)) ≡ true) → any_open viewer (meeting wanted ys) ≡ true
      by_key (inl object) = open_to viewer first (spans.within first (omega arith) spans.order) (or_left (any_open viewer (standing x (stores.objects o))) _ object)
      by_key (inr rest) = by_rest (or_cases (pages_open viewer x stores o first (suc last - first)) _ rest)

  searched_from : (viewer : Viewer) → any_open viewer (meeting wanted ys) ≡ true → searched viewer x stores o first (suc last - first) (suc last) ≡ true
  searched_from viewer is = at_open (open_part viewer wanted ys is)
    where
      to_pages : pages_open viewer x stores o first (suc last - first) ≡ true → searched viewer x stores o first (suc last - first) (suc last) ≡ true
      to_pages pages = or_right (any_open viewer (standing x (stores.objects o))) _ (or_left (pages_open viewer x stores o first (suc last - first)) _ pages)

      to_cuts : cut_open viewer x stores o (suc last) ≡ true → searched viewer x stores o first (suc last - first) (suc last) ≡ true
      to_cuts cuts = or_right (any_open viewer (standing x (stores.objects o))) _ (or_right (pages_open viewer x stores o first (suc last - first)) _ cuts)

      page_at_ : (b : ℕ) → first ≤ b → covers wanted (Page o b) ≡ true → any_open viewer (standing x (stores.pages o b)) ≡ true → searched viewer x stores o first (suc last - first) (suc last) ≡ true
      page_at_ b low here opens = by_place (cases_lt last b)
        where
          by_place : (last < b) ⊎ (b ≤ last) → searched viewer x stores o first (suc last - first) (suc last) ≡ true
          by_place (inl beyond) = absurd (false≢true (sym (ap (λ ws. any_open viewer (standing x ws)) ((spans.above b beyond here).pages b beyond)) ∙ opens))
          by_place (inr most) = to_pages (page_to viewer x stores o first (suc last - first) b low (omega (arith, most, low)) opens)

      cut_at_ : (b : ℕ) → covers wanted (Page o b) ≡ true → OpenCut viewer x stores o (suc b) → searched viewer x stores o first (suc last - first) (suc last) ≡ true
      cut_at_ b here cut = by_place (cases_lt last cut.number)
        where
          by_place : (last < cut.number) ⊎ (cut.number ≤ last) → searched viewer x stores o first (suc last - first) (suc last) ≡ true
          by_place (inl beyond) = absurd (false≢true (sym (ap (λ ws. any_open viewer (standing x ws)) ((spans.above b (omega (arith, beyond, cut.high)) here).cuts cut.number beyond)) ∙ cut.opens))
          by_place (inr most) = to_cuts (cut_to viewer x stores o (suc last) cut.number (omega (arith, most)) cut.opens)

      by_rest : (b : ℕ) → first ≤ b → covers wanted (Page o b) ≡ true → (any_open viewer (standing x (stores.pages o b)) ≡ true) ⊎ (cut_open viewer x stores o (suc b) ≡ true) → searched viewer x stores o first (suc last - first) (suc last) ≡ true
      by_rest b low here (inl page) = page_at_ b low here page
      by_rest b low here (inr cuts) = cut_at_ b here (cut_from viewer x stores o (suc b) cuts)

      by_key : (b : ℕ) → first ≤ b → covers wanted (Page o b) ≡ true → (any_open viewer (standing x (stores.objects o)) ≡ true) ⊎ ((any_open viewer (standing x (stores.pages o b)) || cut_open viewer x stores o (suc b)) ≡ true) → searched viewer x stores o first (suc last - first) (suc last) ≡ true
      by_key b low here (inl object) = or_left (any_open viewer (standing x (stores.objects o))) _ object
      by_key b low here (inr rest) = by_rest b low here (or_cases (any_open viewer (standing x (stores.pages o b))) _ rest)

      at_page_ : (b : ℕ) → first ≤ b → covers wanted (Page o b) ≡ true → any_open viewer (at_page o b ys) ≡ true → searched viewer x stores o first (suc last - first) (suc last) ≡ true
      at_page_ b low here opens = by_key b low here (or_cases (any_open viewer (standing x (stores.objects o))) _ ((stands.busy o b).alike viewer ∙ opens))

      in_place : (part : Part) → covers wanted part ≡ true → IsFrom o first part → any_open viewer (filter (λ (e : Edit Deed). covers (touched e.deed) part) ys) ≡ true → searched viewer x stores o first (suc last - first) (suc last) ≡ true
      in_place (RowAt table id) here from opens = absurd from
      in_place (Object p) here from opens = at_page_ first (omega arith) (spans.within first (omega arith) spans.order) (any_more viewer (touches_page o first) (λ d. covers (touched d) (Object o)) (object_at_page o first) ys (subst (λ (q : ℕ). any_open viewer (filter (λ (e : Edit Deed). covers (touched e.deed) (Object q)) ys) ≡ true) from opens))
      in_place (Page p b) here from opens = at_page_ b from.1 (subst (λ (q : ℕ). covers wanted (Page q b) ≡ true) from.0 here) (subst (λ (q : ℕ). any_open viewer (at_page q b ys) ≡ true) from.0 opens)

      at_open : OpenPart viewer wanted ys → searched viewer x stores o first (suc last - first) (suc last) ≡ true
      at_open found = in_place found.part found.wanted_there (spans.from found.part found.wanted_there) found.open_there

  -- For each viewer the searches find something exactly where an edit that is met is opens.
  pub searched_is : (viewer : Viewer) → searched viewer x stores o first (suc last - first) (suc last) ≡ any_open viewer (meeting wanted ys)
  searched_is viewer = both_true _ _ (searched_to viewer) (searched_from viewer)

-- the lowest session

busy_meeting : (s : ℕ) (wanted : Touched) (ys : List (Edit Deed)) → busy_with s wanted ys ≡ lowest_other s (meeting wanted ys)
busy_meeting s wanted [] = refl
busy_meeting s wanted (e ∷ es) = by_meets (meets wanted (touched e.deed)) (busy_meeting s wanted es)
  where
    by_meets : (b : Bool) → busy_with s wanted es ≡ lowest_other s (meeting wanted es) → lower_of (if b then other_session s e.owner else None) (busy_with s wanted es) ≡ lowest_other s (cond b (e ∷ meeting wanted es) (meeting wanted es))
    by_meets true rest = ap (lower_of (other_session s e.owner)) rest
    by_meets false rest = rest

module _ {P : Type 0} (s : ℕ) (x : Transactions) (stores : Stores P) (o : ℕ) where
  pub pages_lowest_is : (first count : ℕ) → IsLowest s (λ t. pages_open (Whole t) x stores o first count) (pages_lowest s x stores o first count)
  pages_lowest_is first zero = λ t apart. refl
  pages_lowest_is first (suc n) = lowest_joined s (λ t. any_open (Whole t) (standing x (stores.pages o first))) (λ t. pages_open (Whole t) x stores o (first + 1) n) (λ t. pages_open (Whole t) x stores o first (suc n)) (λ t. refl) _ _ (lowest_is s (standing x (stores.pages o first))) (pages_lowest_is (first + 1) n)

  pub cuts_lowest_is : (count : ℕ) → IsLowest s (λ t. cut_open (Whole t) x stores o count) (cuts_lowest s x stores o count)
  cuts_lowest_is zero = λ t apart. refl
  cuts_lowest_is (suc n) = lowest_joined s (λ t. cut_open (Whole t) x stores o n) (λ t. any_open (Whole t) (standing x (stores.cuts o n))) (λ t. cut_open (Whole t) x stores o (suc n)) (λ t. refl) _ _ (cuts_lowest_is n) (lowest_is s (standing x (stores.cuts o n)))

  search_is : (first count cuts : ℕ) → IsLowest s (λ t. searched (Whole t) x stores o first count cuts) (search s x stores o first count cuts)
  search_is first count cuts =
      lowest_joined s (λ t. any_open (Whole t) (standing x (stores.objects o))) (λ t. pages_open (Whole t) x stores o first count || cut_open (Whole t) x stores o cuts) (λ t. searched (Whole t) x stores o first count cuts) (λ t. refl) _ _
      (lowest_is s (standing x (stores.objects o)))
      (lowest_joined s (λ t. pages_open (Whole t) x stores o first count) (λ t. cut_open (Whole t) x stores o cuts) (λ t. pages_open (Whole t) x stores o first count || cut_open (Whole t) x stores o cuts) (λ t. refl) _ _ (pages_lowest_is first count) (cuts_lowest_is cuts))

-- The lowest session that the three searches find is the one that the request is busy with.
pub search_is_busy : {P : Type 0} (value : ℕ → P → Option Content) (x : Transactions) (stores : Stores P) (ys : List (Edit Deed)) → PagesStand value x stores ys → (s : ℕ) (wanted : Touched) (o first last : ℕ) → Spans stores wanted o first last → search s x stores o first (suc last - first) (suc last) ≡ busy_with s wanted ys
search_is_busy value x stores ys stands s wanted o first last spans =
    lowest_same s (λ t. searched (Whole t) x stores o first (suc last - first) (suc last)) (λ t. any_open (Whole t) (meeting wanted ys)) (λ t. searched_is value x stores ys stands wanted o first last spans (Whole t)) _ _ (search_is s x stores o first (suc last - first) (suc last)) (lowest_is s (meeting wanted ys))
    ∙ sym (busy_meeting s wanted ys)

-- the spans of calls

pub spans_from : {P : Type 0} (stores : Stores P) (o first last : ℕ) → first ≤ last → NothingAbove stores o last → Spans stores (PagesFrom o first) o first last
spans_from stores o first last order none = record {
  order = order;
  within = λ b low high. grind (arith, nat_tests);
  from = from;
  above = λ b beyond here. none;
}
  where
    from : (part : Part) → covers (PagesFrom o first) part ≡ true → IsFrom o first part
    from (RowAt table id) is = absurd (false≢true is)
    from (Object p) is = absurd (false≢true is)
    from (Page p b) is = (by_equal (cases_eq o p) is, grind (arith, nat_tests, is))
      where
        by_equal : (o ≡ p) ⊎ (o ≡ p → ⊥) → ((o == p) && nat_le first b) ≡ true → p ≡ o
        by_equal (inl same) at = sym same
        by_equal (inr apart) at = let test : (o == p) ≡ false = grind (arith, nat_tests, apart) in absurd (false≢true (sym (ap (λ (c : Bool). c && nat_le first b) test) ∙ at))

pub spans_whole : {P : Type 0} (stores : Stores P) (o last : ℕ) → NothingAbove stores o last → Spans stores (WholeObject o) o 0 last
spans_whole stores o last none = record {
  order = omega arith;
  within = λ b low high. grind (arith, nat_tests);
  from = from;
  above = λ b beyond here. none;
}
  where
    by_equal : (p : ℕ) → (o ≡ p) ⊎ (o ≡ p → ⊥) → (o == p) ≡ true → p ≡ o
    by_equal p (inl same) at = sym same
    by_equal p (inr apart) at = let test : (o == p) ≡ false = grind (arith, nat_tests, apart) in absurd (false≢true (sym test ∙ at))

    from : (part : Part) → covers (WholeObject o) part ≡ true → IsFrom o 0 part
    from (RowAt table id) is = absurd (false≢true is)
    from (Object p) is = by_equal p (cases_eq o p) is
    from (Page p b) is = (by_equal p (cases_eq o p) is, omega arith)

spans_between : {P : Type 0} (stores : Stores P) (o first last : ℕ) → first ≤ last → Spans stores (Pages o first last) o first last
spans_between stores o first last order = record {
  order = order;
  within = λ b low high. grind (arith, nat_tests);
  from = from;
  above = λ b beyond here. absurd (let most : b ≤ last = grind (arith, nat_tests, here) in omega (arith, most, beyond));
}
  where
    from : (part : Part) → covers (Pages o first last) part ≡ true → IsFrom o first part
    from (RowAt table id) is = absurd (false≢true is)
    from (Object p) is = absurd (false≢true is)
    from (Page p b) is = (by_equal (cases_eq o p) is, grind (arith, nat_tests, is))
      where
        by_equal : (o ≡ p) ⊎ (o ≡ p → ⊥) → ((o == p) && (nat_le first b && nat_le b last)) ≡ true → p ≡ o
        by_equal (inl same) at = sym same
        by_equal (inr apart) at = let test : (o == p) ≡ false = grind (arith, nat_tests, apart) in absurd (false≢true (sym (ap (λ (c : Bool). c && (nat_le first b && nat_le b last)) test) ∙ at))

pub spans_write : {P : Type 0} (stores : Stores P) (o at : ℕ) (bytes : List ℕ) → 0 < length bytes → Spans stores (touched (Write o at bytes)) o (at / 2048) ((at + length bytes - 1) / 2048)
spans_write {P} stores o at bytes some = by_count (length bytes) some
  where
    by_count : (count : ℕ) → 0 < count → Spans stores (pages_of o at count) o (at / 2048) ((at + count - 1) / 2048)
    by_count zero less = absurd (omega (arith, less))
    by_count (suc more) less =
        let last : (at + suc more - 1) / 2048 ≡ (at + more) / 2048 = ap (λ (n : ℕ). n / 2048) (omega arith) in
        rw last (spans_between stores o (at / 2048) ((at + more) / 2048) (omega arith))

-- Where nobody is found, each key of the searches is free, as a put there needs.

pub lower_none : (o p : Option ℕ) → lower_of o p ≡ None → (o ≡ None) × (p ≡ None)
lower_none None p is = (refl, is)
lower_none (Some a) None is = absurd (grind arith)
lower_none (Some a) (Some b) is = absurd (grind arith)

module _ {P : Type 0} (s : ℕ) (x : Transactions) (stores : Stores P) (o : ℕ) where
  pub pages_free : (first count b : ℕ) → pages_lowest s x stores o first count ≡ None → first ≤ b → b < first + count → lowest_other s (standing x (stores.pages o b)) ≡ None
  pages_free first zero b none low high = absurd (omega (arith, low, high))
  pages_free first (suc n) b none low high = by_place (cases_eq first b) (λ more. pages_free (first + 1) n b parts.1 more (omega (arith, high)))
    where
      parts : (lowest_other s (standing x (stores.pages o first)) ≡ None) × (pages_lowest s x stores o (first + 1) n ≡ None)
      parts = lower_none (lowest_other s (standing x (stores.pages o first))) (pages_lowest s x stores o (first + 1) n) none

      by_place : (first ≡ b) ⊎ (first ≡ b → ⊥) → (first + 1 ≤ b → lowest_other s (standing x (stores.pages o b)) ≡ None) → lowest_other s (standing x (stores.pages o b)) ≡ None
      by_place (inl is) left = subst (λ (c : ℕ). lowest_other s (standing x (stores.pages o c)) ≡ None) is parts.0
      by_place (inr apart) left = left (omega (arith, low, apart))

  pub cuts_free : (count b : ℕ) → cuts_lowest s x stores o count ≡ None → b < count → lowest_other s (standing x (stores.cuts o b)) ≡ None
  cuts_free zero b none high = absurd (omega (arith, high))
  cuts_free (suc n) b none high = by_place (cases_lt b n) (λ lower. cuts_free n b parts.0 lower)
    where
      parts : (cuts_lowest s x stores o n ≡ None) × (lowest_other s (standing x (stores.cuts o n)) ≡ None)
      parts = lower_none (cuts_lowest s x stores o n) (lowest_other s (standing x (stores.cuts o n))) none

      by_place : (b < n) ⊎ (n ≤ b) → (b < n → lowest_other s (standing x (stores.cuts o b)) ≡ None) → lowest_other s (standing x (stores.cuts o b)) ≡ None
      by_place (inl lower) left = left lower
      by_place (inr least) left = let is : n ≡ b = omega (arith, high, least) in subst (λ (c : ℕ). lowest_other s (standing x (stores.cuts o c)) ≡ None) is parts.1

  pub search_free : (first last : ℕ) → first ≤ last → search s x stores o first (suc last - first) (suc last) ≡ None → (lowest_other s (standing x (stores.objects o)) ≡ None) × (((b : ℕ) → first ≤ b → b ≤ last → lowest_other s (standing x (stores.pages o b)) ≡ None) × ((b : ℕ) → b ≤ last → lowest_other s (standing x (stores.cuts o b)) ≡ None))
  search_free first last order none = (parts.0, ((λ b low high. pages_free first (suc last - first) b rest.0 low (omega (arith, order, high))), (λ b high. cuts_free (suc last) b rest.1 (omega (arith, high)))))
    where
      parts : (lowest_other s (standing x (stores.objects o)) ≡ None) × (lower_of (pages_lowest s x stores o first (suc last - first)) (cuts_lowest s x stores o (suc last)) ≡ None)
      parts = lower_none _ _ none

      rest : (pages_lowest s x stores o first (suc last - first) ≡ None) × (cuts_lowest s x stores o (suc last) ≡ None)
      rest = lower_none _ _ parts.1
