-- What a reader reads is what its form spells, and what is spelled so is read, whatever follows it: a law for each way to
-- put readers together.
use Rattle.std.proofs.Common.{◌≡◌, ℕ, zero, suc, ◌+◌, ◌^◌, ◌<◌, ◌≤◌, Bool, true, false, cond, ltb, eqb, List, [], ◌∷◌, ◌++◌, length, get_or, take, drop, Option, Some, None, Result, Ok, Err, refl, sym, ap, subst, ◌∙◌, append_assoc, arith, inl, inr}
use Rattle.std.specs.Prelude.{bytes_eq}
use Rattle.std.proofs.lemmas.Bool.Decides.{nat_tests}
use Rattle.std.specs.Int.{Width, w16, w32, w64, byte_len, from_le_bytes, to_le_bytes}
use Rattle.std.proofs.lemmas.Bool.{cases_lt, ltb-false, le-ltb, eqb-true}
use Rattle.std.proofs.lemmas.Slice.Eq.{bytes_eq-Decides}
use Rattle.std.proofs.lemmas.List.{take_at, drop_at, take-append-drop, length-append, length-take, get_or-drop, get_or-take, get_or_past}
use Rattle.std.proofs.lemmas.Nat.{le_bytes_2, le_bytes_4, le_bytes_8, from_le_bytes-to_le_bytes_2, from_le_bytes-to_le_bytes_4, from_le_bytes-to_le_bytes_8}
use Rattle.lo_image.specs.declared.fault.Defect.{Defect}
use Rattle.lo_image.specs.declared.fault.Defect.TheVariants.{Short}
use Rattle.lo_image.specs.declared.fault.Fault.{Fault}
use Rattle.lo_image.specs.Readers.{◌>>=◌, fails, piece, number, judged, tested, fixed, fixed_piece, behind, both, made, many}

abbrev pub IsBytes : List ℕ → Type 0
IsBytes bytes = (i : ℕ) → get_or bytes i 0 < 256

pub IsBytes-drop : (n : ℕ) (bytes : List ℕ) → IsBytes bytes → IsBytes (drop n bytes)
IsBytes-drop n bytes h i = rw get_or-drop (h (n + i))

pub IsBytes-take : (n : ℕ) (bytes : List ℕ) → IsBytes bytes → IsBytes (take n bytes)
IsBytes-take n bytes h i =
    elim (cases_lt i n) [
      | inl lt ↦ rw (get_or-take n bytes i 0 lt) (h i)
      | inr le ↦ rw (get_or_past (take n bytes) i 0 (omega (arith, length-take n bytes))) (omega arith)
    ]

-- the bytes behind a front
pub IsBytes-behind : (bytes front rest : List ℕ) → IsBytes bytes → bytes ≡ front ++ rest → IsBytes rest
IsBytes-behind bytes front rest fits e =
    let same : drop (length front) bytes ≡ rest = ap (drop (length front)) e ∙ drop_at front rest (length front) refl in
    subst IsBytes same (IsBytes-drop (length front) bytes fits)

-- ---- steps

pub record Bound (A B : Type 0) (r : Result A Fault) (f : A → Result B Fault) (y : B) : Type 0 where
  pub first : A
  pub found : r ≡ Ok first
  pub then : f first ≡ Ok y

-- the value of a step that did not fail
pub bound : {A B : Type 0} (r : Result A Fault) (f : A → Result B Fault) (y : B) → (r >>= f) ≡ Ok y → Bound A B r f y
bound (Ok x) f y e = record { first = x; found = refl; then = e }
bound (Err d) f y e = absurd cc

abbrev done : {A : Type 0} → A → Result A Fault
done x = Ok x

pub ok_is : {A : Type 0} (x y : A) → done x ≡ done y → x ≡ y
ok_is x y e = cc

-- a test that did not fail
pub guard_short : {A : Type 0} (b : Bool) (d : Fault) (x y : A) → cond b (Err d) (Ok x) ≡ Ok y → (b ≡ false) × (x ≡ y)
guard_short true d x y e = absurd cc
guard_short false d x y e = (refl, cc)

pub guard_same : {A : Type 0} (b : Bool) (d : Fault) (x y : A) → cond b (Ok x) (Err d) ≡ Ok y → (b ≡ true) × (x ≡ y)
guard_same true d x y e = (refl, cc)
guard_same false d x y e = absurd cc

-- a judgement that found no defect
pub none_found : {A : Type 0} (defect : Option Defect) (bytes : List ℕ) (x y : A) → judged defect bytes x ≡ Ok y → (defect ≡ None) × (x ≡ y)
none_found None bytes x y e = (refl, cc)
none_found (Some kind) bytes x y e = absurd cc

-- ---- the law

-- The reader reads exactly the values that are so, each from the bytes of its form.
pub record Reads (A : Type 0) (r : List ℕ → Result (A × List ℕ) Fault) (form : A → List ℕ) (Is : A → Type 0) : Type 0 where
  pub takes : (bytes : List ℕ) (x : A × List ℕ) → IsBytes bytes → r bytes ≡ Ok x → (bytes ≡ form x.0 ++ x.1) × Is x.0
  pub again : (a : A) (rest : List ℕ) → Is a → r (form a ++ rest) ≡ Ok (a, rest)

-- A field that earlier fields fix: its bytes are the text and no others.
pub record IsFixed (f : List ℕ → Result (List ℕ) Fault) (text : List ℕ) : Type 0 where
  pub takes : (bytes rest : List ℕ) → IsBytes bytes → f bytes ≡ Ok rest → bytes ≡ text ++ rest
  pub again : (rest : List ℕ) → f (text ++ rest) ≡ Ok rest

-- what a judgement lets through, of values that are so
pub record Judges (A : Type 0) (Is : A → Type 0) (judge : A → Option Defect) (Rule : A → Type 0) : Type 0 where
  pub sound : (a : A) → Is a → judge a ≡ None → Rule a
  pub again : (a : A) → Is a → Rule a → judge a ≡ None

-- ---- fields

pub piece_takes : (n : ℕ) (bytes : List ℕ) (x : List ℕ × List ℕ) → piece n bytes ≡ Ok x → (bytes ≡ x.0 ++ x.1) × (length x.0 ≡ n)
piece_takes n bytes x e =
    let g = guard_short (ltb (length bytes) n) (record { left = length bytes; kind = Short }) (take n bytes, drop n bytes) x e in
    let long : n ≤ length bytes = ltb-false _ _ g.0 in
    subst (λ (y : List ℕ × List ℕ). (bytes ≡ y.0 ++ y.1) × (length y.0 ≡ n)) g.1 (sym (take-append-drop n bytes), omega (arith, length-take n bytes))

pub piece_again : (n : ℕ) (a rest : List ℕ) → length a ≡ n → piece n (a ++ rest) ≡ Ok (a, rest)
piece_again n a rest len =
    let long : ltb (length (a ++ rest)) n ≡ false = le-ltb _ _ (omega (arith, length-append a rest)) in
    rw (long, take_at a rest n len, drop_at a rest n len) refl

pub piece_reads : (n : ℕ) → Reads (List ℕ) (piece n) (λ a. a) (λ a. length a ≡ n)
piece_reads n = record {
  takes = λ bytes x fits e. piece_takes n bytes x e;
  again = λ a rest is. piece_again n a rest is;
}

pub record IsWide (w : Width) (limit : ℕ) : Type 0 where
  pub len : (n : ℕ) → length (to_le_bytes w n) ≡ byte_len w
  pub back : (bytes : List ℕ) → length bytes ≡ byte_len w → IsBytes bytes → to_le_bytes w (from_le_bytes w bytes) ≡ bytes
  pub again : (n : ℕ) → n < limit → from_le_bytes w (to_le_bytes w n) ≡ n
  pub below : (bytes : List ℕ) → IsBytes bytes → from_le_bytes w bytes < limit

pub wide16 : IsWide w16 (2 ^ 16)
wide16 = record {
  len = λ n. refl;
  back = λ bytes len fits. le_bytes_2 bytes _ len fits refl;
  again = λ n lt. from_le_bytes-to_le_bytes_2 n lt;
  below = λ bytes fits. omega (arith, fits 0, fits 1);
}

pub wide32 : IsWide w32 (2 ^ 32)
wide32 = record {
  len = λ n. refl;
  back = λ bytes len fits. le_bytes_4 bytes _ len fits refl;
  again = λ n lt. from_le_bytes-to_le_bytes_4 n lt;
  below = λ bytes fits. omega (arith, fits 0, fits 1, fits 2, fits 3);
}

pub wide64 : IsWide w64 (2 ^ 64)
wide64 = record {
  len = λ n. refl;
  back = λ bytes len fits. le_bytes_8 bytes _ len fits refl;
  again = λ n lt. from_le_bytes-to_le_bytes_8 n lt;
  below = λ bytes fits. omega (arith, fits 0, fits 1, fits 2, fits 3, fits 4, fits 5, fits 6, fits 7);
}

pub number_takes : (w : Width) (limit : ℕ) (wide : IsWide w limit) (bytes : List ℕ) (x : ℕ × List ℕ) → IsBytes bytes → number w bytes ≡ Ok x → (bytes ≡ to_le_bytes w x.0 ++ x.1) × (x.0 < limit)
number_takes w limit wide bytes x fits e =
    let b = bound (piece (byte_len w) bytes) (λ y. Ok (from_le_bytes w y.0, y.1)) x e in
    let front = b.first.0 in
    let p = piece_takes (byte_len w) bytes b.first b.found in
    let front_fits : IsBytes front = subst IsBytes (ap (take (byte_len w)) p.0 ∙ take_at front b.first.1 (byte_len w) p.1) (IsBytes-take (byte_len w) bytes fits) in
    let same : (from_le_bytes w front, b.first.1) ≡ x = ok_is (from_le_bytes w front, b.first.1) x b.then in
    subst (λ (y : ℕ × List ℕ). (bytes ≡ to_le_bytes w y.0 ++ y.1) × (y.0 < limit)) same
    (p.0 ∙ ap (λ (t : List ℕ). t ++ b.first.1) (sym (wide.back front p.1 front_fits)), wide.below front front_fits)

pub number_again : (w : Width) (limit : ℕ) (wide : IsWide w limit) (n : ℕ) (rest : List ℕ) → n < limit → number w (to_le_bytes w n ++ rest) ≡ Ok (n, rest)
number_again w limit wide n rest lt = rw (piece_again (byte_len w) (to_le_bytes w n) rest (wide.len n), wide.again n lt) refl

pub number_reads : (w : Width) (limit : ℕ) (wide : IsWide w limit) → Reads ℕ (number w) (to_le_bytes w) (λ n. n < limit)
number_reads w limit wide = record {
  takes = λ bytes x fits e. number_takes w limit wide bytes x fits e;
  again = λ n rest is. number_again w limit wide n rest is;
}

eqb-same : (n : ℕ) → eqb n n ≡ true
eqb-same n = grind (arith, nat_tests)

pub fixed_is : (w : Width) (limit : ℕ) (wide : IsWide w limit) (n : ℕ) (kind : Defect) → n < limit → IsFixed (fixed w n kind) (to_le_bytes w n)
fixed_is w limit wide n kind lt = record {
  takes = λ bytes rest fits e.
      let b = bound (number w bytes) (λ x. cond (eqb x.0 n) (Ok x.1) (fails kind bytes)) rest e in
      let g = guard_same (eqb b.first.0 n) (record { left = length bytes; kind = kind }) b.first.1 rest b.then in
      let t = number_takes w limit wide bytes b.first fits b.found in
      t.0 ∙ ap (λ (m : ℕ). to_le_bytes w m ++ b.first.1) (eqb-true _ _ g.0) ∙ ap (λ (r : List ℕ). to_le_bytes w n ++ r) g.1;
  again = λ rest. rw (number_again w limit wide n rest lt) (rw (eqb-same n) refl);
}

pub fixed_piece_is : (text : List ℕ) (kind : Defect) → IsFixed (fixed_piece text kind) text
fixed_piece_is text kind = record {
  takes = λ bytes rest fits e.
      let b = bound (piece (length text) bytes) (λ x. cond (bytes_eq x.0 text) (Ok x.1) (fails kind bytes)) rest e in
      let g = guard_same (bytes_eq b.first.0 text) (record { left = length bytes; kind = kind }) b.first.1 rest b.then in
      let t = piece_takes (length text) bytes b.first b.found in
      let is : b.first.0 ≡ text = (bytes_eq-Decides b.first.0 text).0 g.0 in
      t.0 ∙ ap (λ (m : List ℕ). m ++ b.first.1) is ∙ ap (λ (r : List ℕ). text ++ r) g.1;
  again = λ rest.
      let same : bytes_eq text text ≡ true = (bytes_eq-Decides text text).1 refl in
      rw (piece_again (length text) text rest refl, same) refl;
}

-- ---- several

pub tested_reads : (A : Type 0) (r : List ℕ → Result (A × List ℕ) Fault) (form : A → List ℕ) (Is : A → Type 0) (judge : A → Option Defect) (Rule : A → Type 0)
    → Reads A r form Is → Judges A Is judge Rule → Reads A (tested judge r) form (λ a. Is a × Rule a)
tested_reads A r form Is judge Rule law rule = record {
  takes = λ bytes x fits e.
      let b = bound (r bytes) (λ y. judged (judge y.0) bytes y) x e in
      let n = none_found (judge b.first.0) bytes b.first x b.then in
      let t = law.takes bytes b.first fits b.found in
      subst (λ (y : A × List ℕ). (bytes ≡ form y.0 ++ y.1) × (Is y.0 × Rule y.0)) n.1 (t.0, (t.1, rule.sound b.first.0 t.1 n.0));
  again = λ a rest is. rw (law.again a rest is.0, rule.again a is.0 is.1) refl;
}

pub behind_reads : (A : Type 0) (f : List ℕ → Result (List ℕ) Fault) (text : List ℕ) (r : List ℕ → Result (A × List ℕ) Fault) (form : A → List ℕ) (Is : A → Type 0)
    → IsFixed f text → Reads A r form Is → Reads A (behind f r) (λ a. text ++ form a) Is
behind_reads A f text r form Is fixed law = record {
  takes = λ bytes x fits e.
      let b = bound (f bytes) r x e in
      let first = fixed.takes bytes b.first fits b.found in
      let t = law.takes b.first x (IsBytes-behind bytes text b.first fits first) b.then in
      (first ∙ ap (λ (y : List ℕ). text ++ y) t.0 ∙ sym (append_assoc text (form x.0) x.1), t.1);
  again = λ a rest is. ap (λ (y : List ℕ). f y >>= r) (append_assoc text (form a) rest) ∙ rw (fixed.again (form a ++ rest)) (law.again a rest is);
}

pub both_reads : (A B : Type 0) (r : List ℕ → Result (A × List ℕ) Fault) (k : A → List ℕ → Result (B × List ℕ) Fault) (form : A → List ℕ) (then : A → B → List ℕ) (Is : A → Type 0) (Then : A → B → Type 0)
    → Reads A r form Is → ((a : A) → Is a → Reads B (k a) (then a) (Then a)) → Reads (A × B) (both r k) (λ p. form p.0 ++ then p.0 p.1) (λ p. Is p.0 × Then p.0 p.1)
both_reads A B r k form then Is Then law more = record {
  takes = λ bytes x fits e.
      let b = bound (r bytes) (λ y. k y.0 y.1 >>= λ z. Ok ((y.0, z.0), z.1)) x e in
      let a = b.first.0 in
      let c = bound (k a b.first.1) (λ z. Ok ((a, z.0), z.1)) x b.then in
      let t = law.takes bytes b.first fits b.found in
      let u = (more a t.1).takes b.first.1 c.first (IsBytes-behind bytes (form a) b.first.1 fits t.0) c.found in
      let whole : bytes ≡ (form a ++ then a c.first.0) ++ c.first.1 = t.0 ∙ ap (λ (y : List ℕ). form a ++ y) u.0 ∙ sym (append_assoc (form a) (then a c.first.0) c.first.1) in
      subst (λ (y : (A × B) × List ℕ). (bytes ≡ (form y.0.0 ++ then y.0.0 y.0.1) ++ y.1) × (Is y.0.0 × Then y.0.0 y.0.1)) (ok_is ((a, c.first.0), c.first.1) x c.then) (whole, (t.1, u.1));
  again = λ p rest is.
      ap (both r k) (append_assoc (form p.0) (then p.0 p.1) rest) ∙ rw (law.again p.0 (then p.0 p.1 ++ rest) is.0, (more p.0 is.0).again p.1 rest is.1) refl;
}

-- a number that earlier fields fix, and what is behind it: that it has so many bits is known of what is read
pub fixed_reads : (A : Type 0) (w : Width) (limit : ℕ) (wide : IsWide w limit) (n : ℕ) (kind : Defect) (r : List ℕ → Result (A × List ℕ) Fault) (form : A → List ℕ) (Is : A → Type 0)
    → Reads A r form Is → Reads A (behind (fixed w n kind) r) (λ a. to_le_bytes w n ++ form a) (λ a. (n < limit) × Is a)
fixed_reads A w limit wide n kind r form Is law = record {
  takes = λ bytes x fits e.
      let f = bound (fixed w n kind bytes) r x e in
      let b = bound (number w bytes) (λ y. cond (eqb y.0 n) (Ok y.1) (fails kind bytes)) f.first f.found in
      let g = guard_same (eqb b.first.0 n) (record { left = length bytes; kind = kind }) b.first.1 f.first b.then in
      let same : b.first.0 ≡ n = eqb-true _ _ g.0 in
      let t = number_takes w limit wide bytes b.first fits b.found in
      let below : n < limit = subst (λ (m : ℕ). m < limit) same t.1 in
      let u = (behind_reads A (fixed w n kind) (to_le_bytes w n) r form Is (fixed_is w limit wide n kind below) law).takes bytes x fits e in
      (u.0, (below, u.1));
  again = λ a rest is. (behind_reads A (fixed w n kind) (to_le_bytes w n) r form Is (fixed_is w limit wide n kind is.0) law).again a rest is.1;
}

-- a value made of what was read, seen by other words: `back` gives what was read
pub record Same (A B : Type 0) (f : A → B) (form : A → List ℕ) (Is : A → Type 0) (shown : B → List ℕ) (Rule : B → Type 0) : Type 0 where
  pub back : B → A
  pub there : (b : B) → Rule b → f (back b) ≡ b
  pub here : (a : A) → Is a → (form a ≡ shown (f a)) × Rule (f a)
  pub again : (b : B) → Rule b → (form (back b) ≡ shown b) × Is (back b)

pub made_reads : (A B : Type 0) (f : A → B) (r : List ℕ → Result (A × List ℕ) Fault) (form : A → List ℕ) (Is : A → Type 0) (shown : B → List ℕ) (Rule : B → Type 0)
    → Reads A r form Is → Same A B f form Is shown Rule → Reads B (made f r) shown Rule
made_reads A B f r form Is shown Rule law same = record {
  takes = λ bytes x fits e.
      let b = bound (r bytes) (λ y. Ok (f y.0, y.1)) x e in
      let t = law.takes bytes b.first fits b.found in
      let h = same.here b.first.0 t.1 in
      subst (λ (y : B × List ℕ). (bytes ≡ shown y.0 ++ y.1) × Rule y.0) (ok_is (f b.first.0, b.first.1) x b.then) (t.0 ∙ ap (λ (y : List ℕ). y ++ b.first.1) h.0, h.1);
  again = λ b rest is.
      let s = same.again b is in
      ap (λ (y : List ℕ). made f r (y ++ rest)) (sym s.0) ∙ rw (law.again (same.back b) rest s.1, same.there b is) refl;
}

-- the same reader, by other words
pub same_reads : (A : Type 0) (r : List ℕ → Result (A × List ℕ) Fault) (form : A → List ℕ) (Is : A → Type 0) (shown : A → List ℕ) (Rule : A → Type 0)
    → Reads A r form Is → ((a : A) → Is a → (form a ≡ shown a) × Rule a) → ((a : A) → Rule a → Is a) → Reads A r shown Rule
same_reads A r form Is shown Rule law here back = record {
  takes = λ bytes x fits e.
      let t = law.takes bytes x fits e in
      let h = here x.0 t.1 in
      (t.0 ∙ ap (λ (y : List ℕ). y ++ x.1) h.0, h.1);
  again = λ a rest is.
      let i = back a is in
      ap (λ (y : List ℕ). r (y ++ rest)) (sym (here a i).0) ∙ law.again a rest i;
}

-- ---- lists of records

abbrev pub joined : {A S : Type 0} → (S → A → List ℕ) → (S → A → S) → S → List A → List ℕ
joined form next s [] = []
joined form next s (a ∷ xs) = form s a ++ joined form next (next s a) xs

abbrev pub AllFrom : {A S : Type 0} → (S → A → Type 0) → (S → A → S) → S → List A → Type 0
AllFrom Is next s [] = Unit {0}
AllFrom Is next s (a ∷ xs) = Is s a × AllFrom Is next (next s a) xs

-- n records, each so after those before it
pub record AreRead (A S : Type 0) (Is : S → A → Type 0) (next : S → A → S) (s : S) (n : ℕ) (xs : List A) : Type 0 where
  pub count : length xs ≡ n
  pub all : AllFrom Is next s xs

many_takes : (A S : Type 0) (r : S → List ℕ → Result (A × List ℕ) Fault) (next : S → A → S) (form : S → A → List ℕ) (Is : S → A → Type 0) (law : (s : S) → Reads A (r s) (form s) (Is s))
    (s : S) (n : ℕ) (bytes : List ℕ) (x : List A × List ℕ) → IsBytes bytes → many r next s n bytes ≡ Ok x → (bytes ≡ joined form next s x.0 ++ x.1) × AreRead A S Is next s n x.0
unfolding many
many_takes A S r next form Is law s zero bytes x fits e =
    subst (λ (y : List A × List ℕ). (bytes ≡ joined form next s y.0 ++ y.1) × AreRead A S Is next s zero y.0) (ok_is ([], bytes) x e) (refl, record { count = refl; all = tt })
many_takes A S r next form Is law s (suc n) bytes x fits e =
    let b = bound (r s bytes) (λ y. many r next (next s y.0) n y.1 >>= λ z. Ok (y.0 ∷ z.0, z.1)) x e in
    let a = b.first.0 in
    let c = bound (many r next (next s a) n b.first.1) (λ z. Ok (a ∷ z.0, z.1)) x b.then in
    let t = (law s).takes bytes b.first fits b.found in
    let u = many_takes A S r next form Is law (next s a) n b.first.1 c.first (IsBytes-behind bytes (form s a) b.first.1 fits t.0) c.found in
    let others = joined form next (next s a) c.first.0 in
    let whole : bytes ≡ (form s a ++ others) ++ c.first.1 = t.0 ∙ ap (λ (y : List ℕ). form s a ++ y) u.0 ∙ sym (append_assoc (form s a) others c.first.1) in
    subst (λ (y : List A × List ℕ). (bytes ≡ joined form next s y.0 ++ y.1) × AreRead A S Is next s (suc n) y.0) (ok_is (a ∷ c.first.0, c.first.1) x c.then)
    (whole, record { count = ap suc u.1.count; all = (t.1, u.1.all) })

many_again : (A S : Type 0) (r : S → List ℕ → Result (A × List ℕ) Fault) (next : S → A → S) (form : S → A → List ℕ) (Is : S → A → Type 0) (law : (s : S) → Reads A (r s) (form s) (Is s))
    (s : S) (n : ℕ) (xs : List A) (rest : List ℕ) → length xs ≡ n → AllFrom Is next s xs → many r next s n (joined form next s xs ++ rest) ≡ Ok (xs, rest)
unfolding many
many_again A S r next form Is law s zero [] rest len all = refl
many_again A S r next form Is law s zero (a ∷ xs) rest len all = absurd (omega (arith, len))
many_again A S r next form Is law s (suc n) [] rest len all = absurd (omega (arith, len))
many_again A S r next form Is law s (suc n) (a ∷ xs) rest len all =
    let others = joined form next (next s a) xs in
    let more : length xs ≡ n = omega (arith, len) in
    ap (many r next s (suc n)) (append_assoc (form s a) others rest) ∙ rw ((law s).again a (others ++ rest) all.0, many_again A S r next form Is law (next s a) n xs rest more all.1) refl

pub many_reads : (A S : Type 0) (r : S → List ℕ → Result (A × List ℕ) Fault) (next : S → A → S) (form : S → A → List ℕ) (Is : S → A → Type 0) (law : (s : S) → Reads A (r s) (form s) (Is s)) (s : S) (n : ℕ)
    → Reads (List A) (many r next s n) (joined form next s) (AreRead A S Is next s n)
many_reads A S r next form Is law s n = record {
  takes = λ bytes x fits e. many_takes A S r next form Is law s n bytes x fits e;
  again = λ xs rest is. many_again A S r next form Is law s n xs rest is.count is.all;
}
