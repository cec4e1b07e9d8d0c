-- What is touched meets exactly where a part is shared.
use Rattle.std.proofs.Common.{◌≡◌, ℕ, ℤ, max, true, List, refl, arith, sym, ◌∙◌}
use Rattle.std.specs.Prelude.{bytes_eq, pos}
use Rattle.std.specs.Ordering.{int_eq}
use Rattle.std.proofs.lemmas.Bool.Decides.{nat_tests, Decides-int_eq}
use Rattle.std.proofs.lemmas.Slice.Eq.{bytes_eq-Decides}
use Rattle.lo_model.specs.Row.{is_row}
use Rattle.lo_model.specs.Touch.{Touched, Pages, PagesFrom, WholeObject, RowOf, RowsOf, Nothing, Part, Page, Object, RowAt, covers, meets, SharesPart}

table_itself : (t : List ℕ) → bytes_eq t t ≡ true
table_itself t = (bytes_eq-Decides t t).1 refl

table_is : (t u : List ℕ) → bytes_eq t u ≡ true → t ≡ u
table_is t u h = (bytes_eq-Decides t u).0 h

table_back : (t u : List ℕ) → bytes_eq t u ≡ true → bytes_eq u t ≡ true
table_back t u h = (bytes_eq-Decides u t).1 (sym (table_is t u h))

table_through : (t u w : List ℕ) → bytes_eq t w ≡ true → bytes_eq u w ≡ true → bytes_eq t u ≡ true
table_through t u w h k = (bytes_eq-Decides t u).1 (table_is t w h ∙ sym (table_is u w k))

table_of_row : (t u : List ℕ) (i j : ℤ) → is_row t i u j ≡ true → bytes_eq t u ≡ true
table_of_row t u i j h = grind (arith, h)

id_of_row : (t u : List ℕ) (i j : ℤ) → is_row t i u j ≡ true → int_eq i j ≡ true
id_of_row t u i j h = grind (arith, h)

row_of : (t u : List ℕ) (i j : ℤ) → bytes_eq t u ≡ true → int_eq i j ≡ true → is_row t i u j ≡ true
row_of t u i j h k = rw (h, k) refl

row_itself : (t : List ℕ) (i : ℤ) → is_row t i t i ≡ true
row_itself t i = row_of t t i i (table_itself t) ((Decides-int_eq i i).1 refl)

row_through : (t u w : List ℕ) (i j k : ℤ) → is_row t i w k ≡ true → is_row u j w k ≡ true → is_row t i u j ≡ true
row_through t u w i j k g h =
    let same_id : i ≡ j = (Decides-int_eq i k).0 (id_of_row t w i k g) ∙ sym ((Decides-int_eq j k).0 (id_of_row u w j k h)) in
    row_of t u i j (table_through t u w (table_of_row t w i k g) (table_of_row u w j k h)) ((Decides-int_eq i j).1 same_id)

-- a page that both of two spans of pages cover
on_page : (a b : Touched) (o n : ℕ) → covers a (Page o n) ≡ true → covers b (Page o n) ≡ true → SharesPart a b
on_page a b o n h k = record { part = Page o n; first = h; second = k }

pub shared : (a b : Touched) → meets a b ≡ true → SharesPart a b
shared (Pages o f l) (Pages p g m) h = on_page (Pages o f l) (Pages p g m) o (max f g) (grind (arith, nat_tests, h)) (grind (arith, nat_tests, h))
shared (Pages o f l) (PagesFrom p g) h = on_page (Pages o f l) (PagesFrom p g) o (max f g) (grind (arith, nat_tests, h)) (grind (arith, nat_tests, h))
shared (Pages o f l) (WholeObject p) h = on_page (Pages o f l) (WholeObject p) o f (grind (arith, nat_tests, h)) (grind (arith, nat_tests, h))
shared (PagesFrom o f) (Pages p g m) h = on_page (PagesFrom o f) (Pages p g m) o (max f g) (grind (arith, nat_tests, h)) (grind (arith, nat_tests, h))
shared (PagesFrom o f) (PagesFrom p g) h = on_page (PagesFrom o f) (PagesFrom p g) o (max f g) (grind (arith, nat_tests, h)) (grind (arith, nat_tests, h))
shared (PagesFrom o f) (WholeObject p) h = on_page (PagesFrom o f) (WholeObject p) o f (grind (arith, nat_tests, h)) (grind (arith, nat_tests, h))
shared (WholeObject o) (Pages p g m) h = on_page (WholeObject o) (Pages p g m) o g (grind (arith, nat_tests, h)) (grind (arith, nat_tests, h))
shared (WholeObject o) (PagesFrom p g) h = on_page (WholeObject o) (PagesFrom p g) o g (grind (arith, nat_tests, h)) (grind (arith, nat_tests, h))
shared (WholeObject o) (WholeObject p) h = on_page (WholeObject o) (WholeObject p) o 0 (grind (arith, nat_tests, h)) (grind (arith, nat_tests, h))
shared (RowOf t i) (RowOf u j) h = record { part = RowAt u j; first = h; second = row_itself u j }
shared (RowOf t i) (RowsOf u) h = record { part = RowAt t i; first = row_itself t i; second = table_back t u h }
shared (RowsOf t) (RowOf u j) h = record { part = RowAt u j; first = h; second = row_itself u j }
shared (RowsOf t) (RowsOf u) h = record { part = RowAt u (pos 0); first = h; second = table_itself u }
shared Nothing b h = cc
shared (Pages o f l) Nothing h = cc
shared (Pages o f l) (RowOf u j) h = cc
shared (Pages o f l) (RowsOf u) h = cc
shared (PagesFrom o f) Nothing h = cc
shared (PagesFrom o f) (RowOf u j) h = cc
shared (PagesFrom o f) (RowsOf u) h = cc
shared (WholeObject o) Nothing h = cc
shared (WholeObject o) (RowOf u j) h = cc
shared (WholeObject o) (RowsOf u) h = cc
shared (RowOf t i) Nothing h = cc
shared (RowOf t i) (Pages p g m) h = cc
shared (RowOf t i) (PagesFrom p g) h = cc
shared (RowOf t i) (WholeObject p) h = cc
shared (RowsOf t) Nothing h = cc
shared (RowsOf t) (Pages p g m) h = cc
shared (RowsOf t) (PagesFrom p g) h = cc
shared (RowsOf t) (WholeObject p) h = cc

pub met : (a b : Touched) (part : Part) → covers a part ≡ true → covers b part ≡ true → meets a b ≡ true
met (Pages o f l) (Pages p g m) (Page q n) h k = grind (arith, nat_tests, h, k)
met (Pages o f l) (PagesFrom p g) (Page q n) h k = grind (arith, nat_tests, h, k)
met (Pages o f l) (WholeObject p) (Page q n) h k = grind (arith, nat_tests, h, k)
met (PagesFrom o f) (Pages p g m) (Page q n) h k = grind (arith, nat_tests, h, k)
met (PagesFrom o f) (PagesFrom p g) (Page q n) h k = grind (arith, nat_tests, h, k)
met (PagesFrom o f) (WholeObject p) (Page q n) h k = grind (arith, nat_tests, h, k)
met (WholeObject o) (Pages p g m) (Page q n) h k = grind (arith, nat_tests, h, k)
met (WholeObject o) (PagesFrom p g) (Page q n) h k = grind (arith, nat_tests, h, k)
met (WholeObject o) (WholeObject p) (Page q n) h k = grind (arith, nat_tests, h, k)
met (WholeObject o) (WholeObject p) (Object q) h k = grind (arith, nat_tests, h, k)
met (RowOf t i) (RowOf u j) (RowAt w n) h k = row_through t u w i j n h k
met (RowOf t i) (RowsOf u) (RowAt w n) h k = table_through t u w (table_of_row t w i n h) k
met (RowsOf t) (RowOf u j) (RowAt w n) h k = table_through t u w h (table_of_row u w j n k)
met (RowsOf t) (RowsOf u) (RowAt w n) h k = table_through t u w h k
met Nothing b (Page q n) h k = cc
met (Pages o f l) Nothing (Page q n) h k = cc
met (Pages o f l) (RowOf u j) (Page q n) h k = cc
met (Pages o f l) (RowsOf u) (Page q n) h k = cc
met (PagesFrom o f) Nothing (Page q n) h k = cc
met (PagesFrom o f) (RowOf u j) (Page q n) h k = cc
met (PagesFrom o f) (RowsOf u) (Page q n) h k = cc
met (WholeObject o) Nothing (Page q n) h k = cc
met (WholeObject o) (RowOf u j) (Page q n) h k = cc
met (WholeObject o) (RowsOf u) (Page q n) h k = cc
met (RowOf t i) b (Page q n) h k = cc
met (RowsOf t) b (Page q n) h k = cc
met Nothing b (Object q) h k = cc
met (Pages o f l) b (Object q) h k = cc
met (PagesFrom o f) b (Object q) h k = cc
met (WholeObject o) Nothing (Object q) h k = cc
met (WholeObject o) (Pages p g m) (Object q) h k = cc
met (WholeObject o) (PagesFrom p g) (Object q) h k = cc
met (WholeObject o) (RowOf u j) (Object q) h k = cc
met (WholeObject o) (RowsOf u) (Object q) h k = cc
met (RowOf t i) b (Object q) h k = cc
met (RowsOf t) b (Object q) h k = cc
met Nothing b (RowAt w n) h k = cc
met (Pages o f l) b (RowAt w n) h k = cc
met (PagesFrom o f) b (RowAt w n) h k = cc
met (WholeObject o) b (RowAt w n) h k = cc
met (RowOf t i) Nothing (RowAt w n) h k = cc
met (RowOf t i) (Pages p g m) (RowAt w n) h k = cc
met (RowOf t i) (PagesFrom p g) (RowAt w n) h k = cc
met (RowOf t i) (WholeObject p) (RowAt w n) h k = cc
met (RowsOf t) Nothing (RowAt w n) h k = cc
met (RowsOf t) (Pages p g m) (RowAt w n) h k = cc
met (RowsOf t) (PagesFrom p g) (RowAt w n) h k = cc
met (RowsOf t) (WholeObject p) (RowAt w n) h k = cc
