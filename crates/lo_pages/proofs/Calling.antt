-- Each changing call, from what its body does.
use Rattle.std.proofs.Common.{◌≡◌, ◌≢◌, ℕ, ℤ, ◌+◌, ◌*◌, ◌/◌, ◌<◌, ◌≤◌, inl, inr, ◌⊎◌, Bool, true, false, List, [], ◌∷◌, ◌++◌, length, Option, None, refl, ap, sym, subst, ◌∙◌, arith}
use Rattle.std.specs.Prelude.{◌&&◌, ◌==◌, nat_le, nat_lt, if◌then◌else◌}
use Rattle.std.proofs.lemmas.Bool.{false≢true, cases_eq, cases_order}
use Rattle.std.proofs.lemmas.Bool.Decides.{nat_tests}
use Rattle.lo_base.specs.declared.value.Value.{Value}
use Rattle.lo_model.specs.Edit.{Deed, Create, Write, Cut, Unlink, Put, Delete, Edit}
use Rattle.lo_model.specs.Touch.{touched, busy_with}
use Rattle.xact_core.specs.Transactions.{Transactions}
use Rattle.row_versions.specs.Stands.{made_now}
use Rattle.row_versions.proofs.Keeping.{whole_kept}
use Rattle.lo_pages.specs.Content.{Content, is_written, touches_page, touches_object, cuts_at, after_page, after_head}
use Rattle.lo_pages.specs.Stores.{Stores, there, no_value, PagesStand, head_at, page_at}
use Rattle.lo_pages.specs.Calls.{own, PutsOne, Leaves, Next, Makes, IsMaker, Creates, Writes, Cuts, Drops}
use Rattle.lo_pages.proofs.Folds.{span_written}
use Rattle.lo_pages.proofs.Making.{pages_made}
use Rattle.lo_pages.proofs.Counting.{page_absent}

equal_of : (o p : ℕ) → (o == p) ≡ true → p ≡ o
equal_of o p is = by_equal (cases_eq o p)
  where
    by_equal : (o ≡ p) ⊎ (o ≡ p → ⊥) → p ≡ o
    by_equal (inl same) = sym same
    by_equal (inr apart) = absurd (false≢true (sym (let test : (o == p) ≡ false = grind (arith, nat_tests, apart) in test) ∙ is))

apart_of : (o p : ℕ) → (o == p) ≡ false → p ≢ o
apart_of o p is same = false≢true (sym is ∙ (let test : (o == p) ≡ true = grind (arith, nat_tests, same) in test))

same_test : (o : ℕ) → (o == o) ≡ true
same_test o = grind (arith, nat_tests)

-- whatever a test says, from both answers
by_bool : {Q : Type 0} (t : Bool) → (t ≡ true → Q) → (t ≡ false → Q) → Q
by_bool true f g = f refl
by_bool false f g = g refl

module _ {P : Type 0} (value : ℕ → P → Option Content) (x : Transactions) (s o : ℕ) (old new : Stores P) (ys : List (Edit Deed)) (maker : IsMaker x s) (stands : PagesStand value x old ys) where
  -- create

  makes_create : Creates x s o old new → Makes value x s (Create o) old new
  makes_create by = record {
    number = maker.number;
    some = maker.some;
    whole = maker.whole;
    proper = tt;
    inside = λ p is. absurd (false≢true is);
    objects = objects;
    other_objects = λ p is. by.others.objects p (apart_of o p is);
    pages = λ p b is. inr (pages p b (equal_in p b is));
    other_pages = other_pages;
    cuts = λ p b is. absurd (false≢true is);
    other_cuts = other_cuts;
  }
    where
      equal_in : (p b : ℕ) → touches_page p b (Create o) ≡ true → p ≡ o
      equal_in p b is = equal_of o p (grind (arith, nat_tests, is))

      objects : (p : ℕ) → touches_object p (Create o) ≡ true → PutsOne x s there (after_head p (head_at x (own x s) old p) x.clock (Create o)) (old.objects p) (new.objects p)
      objects p is = subst (λ (q : ℕ). PutsOne x s there (after_head q (head_at x (own x s) old q) x.clock (Create o)) (old.objects q) (new.objects q)) (sym (equal_of o p is)) (subst (λ (t : Bool). PutsOne x s there (if t then true else head_at x (own x s) old o) (old.objects o) (new.objects o)) (sym (same_test o)) by.object)

      absent : (b : ℕ) → page_at value x (own x s) old o b ≡ None
      absent b = page_absent value x old ys stands (own x s) (whole_kept x s maker.number maker.some) o b by.absent

      leaves : (b : ℕ) → Leaves (page_at value x (own x s) old o b) (after_page o b (page_at value x (own x s) old o b) x.clock (Create o)) (old.pages o b) (new.pages o b)
      leaves b = record { stays = absent b ∙ sym (ap (λ (t : Bool). if t then None else page_at value x (own x s) old o b) (same_test o)); is = by.pages b }

      pages : (p b : ℕ) → p ≡ o → Leaves (page_at value x (own x s) old p b) (after_page p b (page_at value x (own x s) old p b) x.clock (Create o)) (old.pages p b) (new.pages p b)
      pages p b is = subst (λ (q : ℕ). Leaves (page_at value x (own x s) old q b) (after_page q b (page_at value x (own x s) old q b) x.clock (Create o)) (old.pages q b) (new.pages q b)) (sym is) (leaves b)

      other_pages : (p b : ℕ) → touches_page p b (Create o) ≡ false → new.pages p b ≡ old.pages p b
      other_pages p b is = by.others.pages p b (apart_of o p (grind (arith, nat_tests, is)))

      other_cuts : (p b : ℕ) → cuts_at p b (Create o) ≡ false → new.cuts p b ≡ old.cuts p b
      other_cuts p b is = by_bool (o == p) (λ same. subst (λ (q : ℕ). new.cuts q b ≡ old.cuts q b) (sym (equal_of o p same)) (by.cuts b)) (λ apart. by.others.cuts p b (apart_of o p apart))

  pub pages_created : Creates x s o old new → busy_with s (touched (Create o)) ys ≡ None → PagesStand value x new (ys ++ made_now x s (Create o) ∷ [])
  pages_created by free = pages_made value x s (Create o) old new ys (makes_create by) stands free

  -- drop_object

  makes_drop : Drops value x s o old new → Makes value x s (Unlink o) old new
  makes_drop by = record {
    number = maker.number;
    some = maker.some;
    whole = maker.whole;
    proper = tt;
    inside = λ p is. absurd (false≢true is);
    objects = objects;
    other_objects = λ p is. by.others.objects p (apart_of o p is);
    pages = λ p b is. pages p b (equal_in p b is);
    other_pages = other_pages;
    cuts = λ p b is. absurd (false≢true is);
    other_cuts = other_cuts;
  }
    where
      equal_in : (p b : ℕ) → touches_page p b (Unlink o) ≡ true → p ≡ o
      equal_in p b is = equal_of o p (grind (arith, nat_tests, is))

      objects : (p : ℕ) → touches_object p (Unlink o) ≡ true → PutsOne x s there (after_head p (head_at x (own x s) old p) x.clock (Unlink o)) (old.objects p) (new.objects p)
      objects p is = subst (λ (q : ℕ). PutsOne x s there (after_head q (head_at x (own x s) old q) x.clock (Unlink o)) (old.objects q) (new.objects q)) (sym (equal_of o p is)) (subst (λ (t : Bool). PutsOne x s there (if t then false else head_at x (own x s) old o) (old.objects o) (new.objects o)) (sym (same_test o)) by.object)

      pages : (p b : ℕ) → p ≡ o → Next false x s value (page_at value x (own x s) old p b) (after_page p b (page_at value x (own x s) old p b) x.clock (Unlink o)) (old.pages p b) (new.pages p b)
      pages p b is = subst (λ (q : ℕ). Next false x s value (page_at value x (own x s) old q b) (after_page q b (page_at value x (own x s) old q b) x.clock (Unlink o)) (old.pages q b) (new.pages q b)) (sym is) (subst (λ (t : Bool). Next false x s value (page_at value x (own x s) old o b) (if t then None else page_at value x (own x s) old o b) (old.pages o b) (new.pages o b)) (sym (same_test o)) (by.pages b))

      other_pages : (p b : ℕ) → touches_page p b (Unlink o) ≡ false → new.pages p b ≡ old.pages p b
      other_pages p b is = by.others.pages p b (apart_of o p (grind (arith, nat_tests, is)))

      other_cuts : (p b : ℕ) → cuts_at p b (Unlink o) ≡ false → new.cuts p b ≡ old.cuts p b
      other_cuts p b is = by_bool (o == p) (λ same. subst (λ (q : ℕ). new.cuts q b ≡ old.cuts q b) (sym (equal_of o p same)) (by.cuts b)) (λ apart. by.others.cuts p b (apart_of o p apart))

  pub pages_dropped : Drops value x s o old new → busy_with s (touched (Unlink o)) ys ≡ None → PagesStand value x new (ys ++ made_now x s (Unlink o) ∷ [])
  pages_dropped by free = pages_made value x s (Unlink o) old new ys (makes_drop by) stands free

  -- write

  makes_write : (at : ℕ) (bytes : List ℕ) → Writes value x s o at bytes old new → Makes value x s (Write o at bytes) old new
  makes_write at bytes by = record {
    number = maker.number;
    some = maker.some;
    whole = maker.whole;
    proper = by.some;
    inside = λ p is. subst (λ (q : ℕ). head_at x (own x s) old q ≡ true) (sym (equal_of o p is)) by.present;
    objects = λ p is. absurd (false≢true is);
    other_objects = λ p is. by_bool (o == p) (λ same. subst (λ (q : ℕ). new.objects q ≡ old.objects q) (sym (equal_of o p same)) by.object) (λ apart. by.others.objects p (apart_of o p apart));
    pages = pages;
    other_pages = other_pages;
    cuts = λ p b is. absurd (false≢true is);
    other_cuts = λ p b is. by_bool (o == p) (λ same. subst (λ (q : ℕ). new.cuts q b ≡ old.cuts q b) (sym (equal_of o p same)) (by.cuts b)) (λ apart. by.others.cuts p b (apart_of o p apart));
  }
    where
      test_is : (p b : ℕ) → touches_page p b (Write o at bytes) ≡ ((o == p) && is_written b at (length bytes))
      test_is p b = span_written p o b at (length bytes) by.some

      here : (b : ℕ) → is_written b at (length bytes) ≡ true → PutsOne x s value (after_page o b (page_at value x (own x s) old o b) x.clock (Write o at bytes)) (old.pages o b) (new.pages o b)
      here b is = rw (same_test o, is) (by.written b is)

      pages : (p b : ℕ) → touches_page p b (Write o at bytes) ≡ true → PutsOne x s value (after_page p b (page_at value x (own x s) old p b) x.clock (Write o at bytes)) (old.pages p b) (new.pages p b)
      pages p b is = by_tests (o == p) (is_written b at (length bytes)) refl refl (sym (test_is p b) ∙ is)
        where
          by_tests : (t u : Bool) → (o == p) ≡ t → is_written b at (length bytes) ≡ u → (t && u) ≡ true → PutsOne x s value (after_page p b (page_at value x (own x s) old p b) x.clock (Write o at bytes)) (old.pages p b) (new.pages p b)
          by_tests true true same within some = subst (λ (q : ℕ). PutsOne x s value (after_page q b (page_at value x (own x s) old q b) x.clock (Write o at bytes)) (old.pages q b) (new.pages q b)) (sym (equal_of o p same)) (here b within)
          by_tests true false same within some = absurd (false≢true some)
          by_tests false u same within some = absurd (false≢true some)

      other_pages : (p b : ℕ) → touches_page p b (Write o at bytes) ≡ false → new.pages p b ≡ old.pages p b
      other_pages p b is = by_tests (o == p) (is_written b at (length bytes)) refl refl (sym (test_is p b) ∙ is)
        where
          by_tests : (t u : Bool) → (o == p) ≡ t → is_written b at (length bytes) ≡ u → (t && u) ≡ false → new.pages p b ≡ old.pages p b
          by_tests true true same within missed = absurd (false≢true (sym missed))
          by_tests true false same within missed = subst (λ (q : ℕ). new.pages q b ≡ old.pages q b) (sym (equal_of o p same)) (by.spared b within)
          by_tests false u same within missed = by.others.pages p b (apart_of o p same)

  pub pages_written : (at : ℕ) (bytes : List ℕ) → Writes value x s o at bytes old new → busy_with s (touched (Write o at bytes)) ys ≡ None → PagesStand value x new (ys ++ made_now x s (Write o at bytes) ∷ [])
  pages_written at bytes by free = pages_made value x s (Write o at bytes) old new ys (makes_write at bytes by) stands free

  -- cut

  makes_cut : (n : ℕ) → Cuts value x s o n old new → Makes value x s (Cut o n) old new
  makes_cut n by = record {
    number = maker.number;
    some = maker.some;
    whole = maker.whole;
    proper = tt;
    inside = λ p is. subst (λ (q : ℕ). head_at x (own x s) old q ≡ true) (sym (equal_of o p is)) by.present;
    objects = λ p is. absurd (false≢true is);
    other_objects = λ p is. by_bool (o == p) (λ same. subst (λ (q : ℕ). new.objects q ≡ old.objects q) (sym (equal_of o p same)) by.object) (λ apart. by.others.objects p (apart_of o p apart));
    pages = pages;
    other_pages = other_pages;
    cuts = cuts;
    other_cuts = other_cuts;
  }
    where
      at_end : Next false x s value (page_at value x (own x s) old o (n / 2048)) (after_page o (n / 2048) (page_at value x (own x s) old o (n / 2048)) x.clock (Cut o n)) (old.pages o (n / 2048)) (new.pages o (n / 2048))
      at_end =
          let one : nat_lt n (2048 * (n / 2048)) ≡ false = (let more : 2048 * (n / 2048) ≤ n = omega arith in grind (arith, nat_tests, more)) in
          let two : nat_lt n (2048 * (n / 2048) + 2048) ≡ true = (let less : n < 2048 * (n / 2048) + 2048 = omega arith in grind (arith, nat_tests, less)) in
          rw (same_test o, one, two) (inl by.end)

      over : (b : ℕ) → n / 2048 < b → Next false x s value (page_at value x (own x s) old o b) (after_page o b (page_at value x (own x s) old o b) x.clock (Cut o n)) (old.pages o b) (new.pages o b)
      over b more =
          let one : nat_lt n (2048 * b) ≡ true = (let less : n < 2048 * b = omega (arith, more) in grind (arith, nat_tests, less)) in
          rw (same_test o, one) (by.above b more)

      here : (b : ℕ) → (b ≡ (n / 2048)) ⊎ ((b < n / 2048) ⊎ (n / 2048 < b)) → n / 2048 ≤ b → Next false x s value (page_at value x (own x s) old o b) (after_page o b (page_at value x (own x s) old o b) x.clock (Cut o n)) (old.pages o b) (new.pages o b)
      here b (inl is) low = subst (λ (c : ℕ). Next false x s value (page_at value x (own x s) old o c) (after_page o c (page_at value x (own x s) old o c) x.clock (Cut o n)) (old.pages o c) (new.pages o c)) (sym is) at_end
      here b (inr (inl less)) low = absurd (omega (arith, less, low))
      here b (inr (inr more)) low = over b more

      pages : (p b : ℕ) → touches_page p b (Cut o n) ≡ true → Next false x s value (page_at value x (own x s) old p b) (after_page p b (page_at value x (own x s) old p b) x.clock (Cut o n)) (old.pages p b) (new.pages p b)
      pages p b is =
          let same : (o == p) ≡ true = grind (arith, nat_tests, is) in
          let low : n / 2048 ≤ b = grind (arith, nat_tests, is) in
          subst (λ (q : ℕ). Next false x s value (page_at value x (own x s) old q b) (after_page q b (page_at value x (own x s) old q b) x.clock (Cut o n)) (old.pages q b) (new.pages q b)) (sym (equal_of o p same)) (here b (cases_order b (n / 2048)) low)

      other_pages : (p b : ℕ) → touches_page p b (Cut o n) ≡ false → new.pages p b ≡ old.pages p b
      other_pages p b is = by_tests (o == p) (nat_le (n / 2048) b) refl refl is
        where
          by_tests : (t u : Bool) → (o == p) ≡ t → nat_le (n / 2048) b ≡ u → (t && u) ≡ false → new.pages p b ≡ old.pages p b
          by_tests true true same low missed = absurd (false≢true (sym missed))
          by_tests true false same low missed = let less : b < n / 2048 = grind (arith, nat_tests, low) in subst (λ (q : ℕ). new.pages q b ≡ old.pages q b) (sym (equal_of o p same)) (by.below b less)
          by_tests false u same low missed = by.others.pages p b (apart_of o p same)

      cuts : (p b : ℕ) → cuts_at p b (Cut o n) ≡ true → PutsOne x s no_value tt (old.cuts p b) (new.cuts p b)
      cuts p b is =
          let same : (o == p) ≡ true = grind (arith, nat_tests, is) in
          let at : ((n / 2048) == b) ≡ true = grind (arith, nat_tests, is) in
          subst (λ (q : ℕ). PutsOne x s no_value tt (old.cuts q b) (new.cuts q b)) (sym (equal_of o p same)) (subst (λ (c : ℕ). PutsOne x s no_value tt (old.cuts o c) (new.cuts o c)) (sym (equal_of (n / 2048) b at)) by.mark)

      other_cuts : (p b : ℕ) → cuts_at p b (Cut o n) ≡ false → new.cuts p b ≡ old.cuts p b
      other_cuts p b is = by_tests (o == p) ((n / 2048) == b) refl refl is
        where
          by_tests : (t u : Bool) → (o == p) ≡ t → ((n / 2048) == b) ≡ u → (t && u) ≡ false → new.cuts p b ≡ old.cuts p b
          by_tests true true same at missed = absurd (false≢true (sym missed))
          by_tests true false same at missed = subst (λ (q : ℕ). new.cuts q b ≡ old.cuts q b) (sym (equal_of o p same)) (by.marks b (apart_of (n / 2048) b at))
          by_tests false u same at missed = by.others.cuts p b (apart_of o p same)

  pub pages_cut : (n : ℕ) → Cuts value x s o n old new → busy_with s (touched (Cut o n)) ys ≡ None → PagesStand value x new (ys ++ made_now x s (Cut o n) ∷ [])
  pages_cut n by free = pages_made value x s (Cut o n) old new ys (makes_cut n by) stands free

-- An edit of a row leaves the stores.

makes_put : {P : Type 0} (value : ℕ → P → Option Content) (x : Transactions) (s : ℕ) (stores : Stores P) → IsMaker x s → (table : List ℕ) (id : ℤ) (values : List Value) (stored : List (Option ℕ)) → Makes value x s (Put table id values stored) stores stores
makes_put value x s stores maker table id values stored = record {
  number = maker.number;
  some = maker.some;
  whole = maker.whole;
  proper = tt;
  inside = λ o is. absurd (false≢true is);
  objects = λ o is. absurd (false≢true is);
  other_objects = λ o is. refl;
  pages = λ o b is. absurd (false≢true is);
  other_pages = λ o b is. refl;
  cuts = λ o b is. absurd (false≢true is);
  other_cuts = λ o b is. refl;
}

makes_delete : {P : Type 0} (value : ℕ → P → Option Content) (x : Transactions) (s : ℕ) (stores : Stores P) → IsMaker x s → (table : List ℕ) (id : ℤ) → Makes value x s (Delete table id) stores stores
makes_delete value x s stores maker table id = record {
  number = maker.number;
  some = maker.some;
  whole = maker.whole;
  proper = tt;
  inside = λ o is. absurd (false≢true is);
  objects = λ o is. absurd (false≢true is);
  other_objects = λ o is. refl;
  pages = λ o b is. absurd (false≢true is);
  other_pages = λ o b is. refl;
  cuts = λ o b is. absurd (false≢true is);
  other_cuts = λ o b is. refl;
}

pub pages_put : {P : Type 0} (value : ℕ → P → Option Content) (x : Transactions) (s : ℕ) (stores : Stores P) (ys : List (Edit Deed)) → IsMaker x s → PagesStand value x stores ys → (table : List ℕ) (id : ℤ) (values : List Value) (stored : List (Option ℕ)) → busy_with s (touched (Put table id values stored)) ys ≡ None → PagesStand value x stores (ys ++ made_now x s (Put table id values stored) ∷ [])
pages_put value x s stores ys maker stands table id values stored free = pages_made value x s (Put table id values stored) stores stores ys (makes_put value x s stores maker table id values stored) stands free

pub pages_deleted : {P : Type 0} (value : ℕ → P → Option Content) (x : Transactions) (s : ℕ) (stores : Stores P) (ys : List (Edit Deed)) → IsMaker x s → PagesStand value x stores ys → (table : List ℕ) (id : ℤ) → busy_with s (touched (Delete table id)) ys ≡ None → PagesStand value x stores (ys ++ made_now x s (Delete table id) ∷ [])
pages_deleted value x s stores ys maker stands table id free = pages_made value x s (Delete table id) stores stores ys (makes_delete value x s stores maker table id) stands free
