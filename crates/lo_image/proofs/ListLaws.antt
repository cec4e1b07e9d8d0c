-- The law for a list whose items are known, and for bytes.
use Rattle.std.proofs.Common.{◌≡◌, ℕ, ◌+◌, ◌<◌, List, [], ◌∷◌, ◌++◌, length, take, All, Result, Ok, refl, sym, ap, subst, ◌∙◌, append_assoc, arith, inl, inr}
use Rattle.std.specs.List.{AllByRecursion}
use Rattle.std.proofs.lemmas.Bool.{cases_lt}
use Rattle.std.proofs.lemmas.List.{take_at, get_or_past}
use Rattle.toast_plan.proofs.Pieces.{small_bytes}
use Rattle.lo_image.specs.declared.fault.Fault.{Fault}
use Rattle.lo_image.specs.Readers.{◌>>=◌, piece, each}
use Rattle.lo_image.proofs.ReaderLaws.{IsBytes, IsBytes-behind, IsBytes-take, bound, ok_is, Reads, piece_takes, piece_again}

abbrev pub AreSmall : List ℕ → Type 0
AreSmall bytes = All (λ b. b < 256) bytes

pub bytes_of_small : (bytes : List ℕ) → AreSmall bytes → IsBytes bytes
bytes_of_small bytes h i = elim (cases_lt i (length bytes)) [ inl lt ↦ h i 0 lt | inr le ↦ rw (get_or_past bytes i 0 le) (omega arith) ]

pub record AreLong (n : ℕ) (bytes : List ℕ) : Type 0 where
  pub len : length bytes ≡ n
  pub small : AreSmall bytes

pub bytes_read : (n : ℕ) → Reads (List ℕ) (piece n) (λ a. a) (AreLong n)
bytes_read n = record {
  takes = λ bytes x fits e.
      let p = piece_takes n bytes x e in
      let front : IsBytes x.0 = subst IsBytes (ap (take n) p.0 ∙ take_at x.0 x.1 n p.1) (IsBytes-take n bytes fits) in
      (p.0, record { len = p.1; small = small_bytes x.0 front });
  again = λ a rest is. piece_again n a rest is.len;
}

abbrev pub each_form : {A B S : Type 0} → (S → A → B → List ℕ) → (S → A → B → S) → S → List A → List B → List ℕ
each_form form next s [] bs = []
each_form form next s (a ∷ items) [] = []
each_form form next s (a ∷ items) (b ∷ bs) = form s a b ++ each_form form next (next s a b) items bs

abbrev pub EachIs : {A B S : Type 0} → (S → A → B → Type 0) → (S → A → B → S) → S → List A → List B → Type 0
EachIs Is next s [] [] = Unit {0}
EachIs Is next s [] (b ∷ bs) = ⊥
EachIs Is next s (a ∷ items) [] = ⊥
EachIs Is next s (a ∷ items) (b ∷ bs) = Is s a b × EachIs Is next (next s a b) items bs

each_takes : (A B S : Type 0) (P : A → Type 0) (r : S → A → List ℕ → Result (B × List ℕ) Fault) (next : S → A → B → S) (form : S → A → B → List ℕ) (Is : S → A → B → Type 0) (law : (s : S) (a : A) → P a → Reads B (r s a) (form s a) (Is s a))
    (s : S) (items : List A) (bytes : List ℕ) (x : List B × List ℕ) → AllByRecursion P items → IsBytes bytes → each r next s items bytes ≡ Ok x → (bytes ≡ each_form form next s items x.0 ++ x.1) × EachIs Is next s items x.0
unfolding each
each_takes A B S P r next form Is law s [] bytes x known fits e =
    subst (λ (y : List B × List ℕ). (bytes ≡ each_form form next s [] y.0 ++ y.1) × EachIs Is next s [] y.0) (ok_is ([], bytes) x e) (refl, tt)
each_takes A B S P r next form Is law s (a ∷ items) bytes x known fits e =
    let b = bound (r s a bytes) (λ y. each r next (next s a y.0) items y.1 >>= λ z. Ok (y.0 ∷ z.0, z.1)) x e in
    let c = bound (each r next (next s a b.first.0) items b.first.1) (λ z. Ok (b.first.0 ∷ z.0, z.1)) x b.then in
    let t = (law s a known.0).takes bytes b.first fits b.found in
    let u = each_takes A B S P r next form Is law (next s a b.first.0) items b.first.1 c.first known.1 (IsBytes-behind bytes (form s a b.first.0) b.first.1 fits t.0) c.found in
    let others = each_form form next (next s a b.first.0) items c.first.0 in
    let whole : bytes ≡ (form s a b.first.0 ++ others) ++ c.first.1 = t.0 ∙ ap (λ (y : List ℕ). form s a b.first.0 ++ y) u.0 ∙ sym (append_assoc (form s a b.first.0) others c.first.1) in
    subst (λ (y : List B × List ℕ). (bytes ≡ each_form form next s (a ∷ items) y.0 ++ y.1) × EachIs Is next s (a ∷ items) y.0) (ok_is (b.first.0 ∷ c.first.0, c.first.1) x c.then) (whole, (t.1, u.1))

each_again : (A B S : Type 0) (P : A → Type 0) (r : S → A → List ℕ → Result (B × List ℕ) Fault) (next : S → A → B → S) (form : S → A → B → List ℕ) (Is : S → A → B → Type 0) (law : (s : S) (a : A) → P a → Reads B (r s a) (form s a) (Is s a))
    (s : S) (items : List A) (bs : List B) (rest : List ℕ) → AllByRecursion P items → EachIs Is next s items bs → each r next s items (each_form form next s items bs ++ rest) ≡ Ok (bs, rest)
unfolding each
each_again A B S P r next form Is law s [] [] rest known all = refl
each_again A B S P r next form Is law s [] (b ∷ bs) rest known all = absurd all
each_again A B S P r next form Is law s (a ∷ items) [] rest known all = absurd all
each_again A B S P r next form Is law s (a ∷ items) (b ∷ bs) rest known all =
    let others = each_form form next (next s a b) items bs in
    ap (each r next s (a ∷ items)) (append_assoc (form s a b) others rest) ∙ rw ((law s a known.0).again b (others ++ rest) all.0, each_again A B S P r next form Is law (next s a b) items bs rest known.1 all.1) refl

pub each_reads : (A B S : Type 0) (P : A → Type 0) (r : S → A → List ℕ → Result (B × List ℕ) Fault) (next : S → A → B → S) (form : S → A → B → List ℕ) (Is : S → A → B → Type 0) (law : (s : S) (a : A) → P a → Reads B (r s a) (form s a) (Is s a)) (s : S) (items : List A)
    → AllByRecursion P items → Reads (List B) (each r next s items) (each_form form next s items) (EachIs Is next s items)
each_reads A B S P r next form Is law s items known = record {
  takes = λ bytes x fits e. each_takes A B S P r next form Is law s items bytes x known fits e;
  again = λ bs rest is. each_again A B S P r next form Is law s items bs rest known is;
}

pub all_free : {A : Type 0} (items : List A) → AllByRecursion (λ (a : A). Unit {0}) items
all_free [] = tt
all_free (a ∷ items) = (tt, all_free items)
