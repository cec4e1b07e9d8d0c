-- Reading records one after the other, as a loop does.
use Rattle.std.proofs.Common.{◌≡◌, ℕ, suc, ◌-◌, ◌+◌, ◌≤◌, ◌<◌, List, [], ◌∷◌, ◌++◌, length, get_or, drop, Result, Ok, Err, refl, sym, ap, ◌∙◌, append_assoc, add-one, arith}
use Rattle.std.proofs.lemmas.List.{append-nil, length-append, length-drop}
use Rattle.std.proofs.Math.Seq.{drop-cons}
use Rattle.lo_image.specs.declared.fault.Fault.{Fault}
use Rattle.lo_image.specs.declared.fault.Stop.{Stop}
use Rattle.lo_image.specs.declared.fault.Stop.TheVariants as stops
use Rattle.lo_image.specs.Readers.{◌>>=◌, Fails, with_front, made, many, each}
use Rattle.lo_image.specs.Reading.{joined_pieces}

regroup : {A : Type 0} (front : List A) (a : A) (read : Result (List A × List ℕ) Fault) → with_front front (read >>= λ x. Ok (a ∷ x.0, x.1)) ≡ with_front (front ++ a ∷ []) read
regroup front a (Ok x) = ap (λ (xs : List _). Ok (xs, x.1)) (simp append_assoc)
regroup front a (Err f) = refl

-- what a loop over `count` records has read before the record `i`
pub record HasRead (A S : Type 0) (r : S → List ℕ → Result (A × List ℕ) Fault) (next : S → A → S) (s : S) (front : List A) (count i : ℕ) (rest : List ℕ) (total : Result (List A × List ℕ) Fault) : Type 0 where
  pub read : with_front front (many r next s (count - i) rest) ≡ total
  pub many_read : length front ≡ i

-- one record more
pub read_on : {A S : Type 0} (r : S → List ℕ → Result (A × List ℕ) Fault) (next : S → A → S) (s : S) (front : List A) (count i : ℕ) (bytes : List ℕ) (a : A) (after : List ℕ) (total : Result (List A × List ℕ) Fault) (new : List A)
    → i < count → r s bytes ≡ Ok (a, after) → new ≡ front ++ a ∷ []
    → HasRead A S r next s front count i bytes total → HasRead A S r next (next s a) new count (i + 1) after total
unfolding many
read_on r next s front count i bytes a after total new lt h added has =
    let k : count - i ≡ suc (count - (i + 1)) = omega arith in
    let one : with_front front (many r next s (count - i) bytes) ≡ with_front (front ++ a ∷ []) (many r next (next s a) (count - (i + 1)) after) = rw (k, h) (regroup front a (many r next (next s a) (count - (i + 1)) after)) in
    record {
      read = rw added (sym one ∙ has.read);
      many_read = rw added (omega (arith, length-append front (a ∷ []), has.many_read));
    }

-- a record that was not read
pub ends : {A S : Type 0} (e : Stop) (r : S → List ℕ → Result (A × List ℕ) Fault) (next : S → A → S) (s : S) (front : List A) (count i : ℕ) (bytes : List ℕ) (total : Result (List A × List ℕ) Fault)
    → i < count → Fails e (r s bytes) → HasRead A S r next s front count i bytes total → Fails e total
unfolding many
ends stops.Memory r next s front count i bytes total lt h has = tt
ends (stops.At f) r next s front count i bytes total lt h has =
    let k : count - i ≡ suc (count - (i + 1)) = omega arith in
    let one : with_front front (many r next s (count - i) bytes) ≡ Err f = rw (k, h) refl in
    sym has.read ∙ one

-- all records
pub is_done : {A S : Type 0} (r : S → List ℕ → Result (A × List ℕ) Fault) (next : S → A → S) (s : S) (front : List A) (count i : ℕ) (bytes : List ℕ) (total : Result (List A × List ℕ) Fault)
    → count ≤ i → HasRead A S r next s front count i bytes total → total ≡ Ok (front, bytes)
unfolding many
is_done r next s front count i bytes total le has =
    let k : count - i ≡ 0 = omega arith in
    let one : with_front front (many r next s (count - i) bytes) ≡ Ok (front, bytes) = rw k (ap (λ (xs : List _). Ok (xs, bytes)) (append-nil front)) in
    sym has.read ∙ one

-- ---- a list that is known

-- one value more
pub each_on : {A B S : Type 0} (r : S → A → List ℕ → Result (B × List ℕ) Fault) (next : S → A → B → S) (s : S) (front : List B) (a : A) (items : List A) (bytes : List ℕ) (b : B) (after : List ℕ) (total : Result (List B × List ℕ) Fault) (new : List B)
    → r s a bytes ≡ Ok (b, after) → new ≡ front ++ b ∷ [] → with_front front (each r next s (a ∷ items) bytes) ≡ total → with_front new (each r next (next s a b) items after) ≡ total
unfolding each
each_on r next s front a items bytes b after total new h added has =
    let one : with_front front (each r next s (a ∷ items) bytes) ≡ with_front (front ++ b ∷ []) (each r next (next s a b) items after) = rw h (regroup front b (each r next (next s a b) items after)) in
    rw added (sym one ∙ has)

-- a value that was not read
pub each_ends : {A B S : Type 0} (e : Stop) (r : S → A → List ℕ → Result (B × List ℕ) Fault) (next : S → A → B → S) (s : S) (front : List B) (a : A) (items : List A) (bytes : List ℕ) (total : Result (List B × List ℕ) Fault)
    → Fails e (r s a bytes) → with_front front (each r next s (a ∷ items) bytes) ≡ total → Fails e total
unfolding each
each_ends stops.Memory r next s front a items bytes total h has = tt
each_ends (stops.At f) r next s front a items bytes total h has =
    let one : with_front front (each r next s (a ∷ items) bytes) ≡ Err f = rw h refl in
    sym has ∙ one

-- all values
pub each_done : {A B S : Type 0} (r : S → A → List ℕ → Result (B × List ℕ) Fault) (next : S → A → B → S) (s : S) (front : List B) (bytes : List ℕ) (total : Result (List B × List ℕ) Fault)
    → with_front front (each r next s [] bytes) ≡ total → total ≡ Ok (front, bytes)
unfolding each
each_done r next s front bytes total has = sym has ∙ ap (λ (xs : List _). Ok (xs, bytes)) (append-nil front)

-- the item at an index, and those behind it
pub item_at : {A : Type 0} (items : List A) (i : ℕ) (a : A) → a ≡ get_or items i a → i < length items → drop i items ≡ a ∷ drop (i + 1) items
item_at items i a is lt = rw add-one (drop-cons items i a lt ∙ ap (λ (x : _). x ∷ drop (suc i) items) (sym is))

pub nothing_left : {A : Type 0} (items : List A) → length items ≡ 0 → items ≡ []
nothing_left [] e = refl
nothing_left (a ∷ items) e = absurd (omega (arith, e))

pub none_at : {A : Type 0} (items : List A) (i : ℕ) → length items ≤ i → drop i items ≡ []
none_at items i le = nothing_left (drop i items) (omega (arith, length-drop i items))

-- one value more, by the index of its item
pub index_on : {A B S : Type 0} (r : S → A → List ℕ → Result (B × List ℕ) Fault) (next : S → A → B → S) (s : S) (front : List B) (a : A) (items : List A) (i : ℕ) (bytes : List ℕ) (b : B) (after : List ℕ) (total : Result (List B × List ℕ) Fault) (new : List B)
    → a ≡ get_or items i a → i < length items → r s a bytes ≡ Ok (b, after) → new ≡ front ++ b ∷ [] → with_front front (each r next s (drop i items) bytes) ≡ total → with_front new (each r next (next s a b) (drop (i + 1) items) after) ≡ total
index_on r next s front a items i bytes b after total new is lt h added has =
    each_on r next s front a (drop (i + 1) items) bytes b after total new h added (ap (λ (rest : List _). with_front front (each r next s rest bytes)) (sym (item_at items i a is lt)) ∙ has)

pub index_ends : {A B S : Type 0} (e : Stop) (r : S → A → List ℕ → Result (B × List ℕ) Fault) (next : S → A → B → S) (s : S) (front : List B) (a : A) (items : List A) (i : ℕ) (bytes : List ℕ) (total : Result (List B × List ℕ) Fault)
    → a ≡ get_or items i a → i < length items → Fails e (r s a bytes) → with_front front (each r next s (drop i items) bytes) ≡ total → Fails e total
index_ends e r next s front a items i bytes total is lt h has =
    each_ends e r next s front a (drop (i + 1) items) bytes total h (ap (λ (rest : List _). with_front front (each r next s rest bytes)) (sym (item_at items i a is lt)) ∙ has)

pub index_done : {A B S : Type 0} (r : S → A → List ℕ → Result (B × List ℕ) Fault) (next : S → A → B → S) (s : S) (front : List B) (items : List A) (i : ℕ) (bytes : List ℕ) (total : Result (List B × List ℕ) Fault)
    → length items ≤ i → with_front front (each r next s (drop i items) bytes) ≡ total → total ≡ Ok (front, bytes)
index_done r next s front items i bytes total le has =
    each_done r next s front bytes total (ap (λ (rest : List _). with_front front (each r next s rest bytes)) (sym (none_at items i le)) ∙ has)

-- a reader of records whose values are joined, as a loop does
pub joins_on : {S : Type 0} (r : S → List ℕ → Result (List ℕ × List ℕ) Fault) (next : S → List ℕ → S) (s : S) (front : List ℕ) (count i : ℕ) (bytes chunk after : List ℕ) (total : Result (List ℕ × List ℕ) Fault) (new : List ℕ)
    → i < count → r s bytes ≡ Ok (chunk, after) → new ≡ front ++ chunk → with_front front (made joined_pieces (many r next s (count - i)) bytes) ≡ total → with_front new (made joined_pieces (many r next (next s chunk) (count - (i + 1))) after) ≡ total
unfolding many
joins_on r next s front count i bytes chunk after total new lt h added has =
    let k : count - i ≡ suc (count - (i + 1)) = omega arith in
    let one : with_front front (made joined_pieces (many r next s (count - i)) bytes) ≡ with_front (front ++ chunk) (made joined_pieces (many r next (next s chunk) (count - (i + 1))) after) = rw (k, h) (regroup_joined front chunk (many r next (next s chunk) (count - (i + 1)) after)) in
    rw added (sym one ∙ has)
  where
    regroup_joined : (front chunk : List ℕ) (read : Result (List (List ℕ) × List ℕ) Fault) → with_front front (◌>>=◌ {A = List (List ℕ) × List ℕ} {B = List ℕ × List ℕ} (◌>>=◌ {A = List (List ℕ) × List ℕ} {B = List (List ℕ) × List ℕ} read (λ x. Ok (chunk ∷ x.0, x.1))) (λ x. Ok (joined_pieces x.0, x.1))) ≡ with_front (front ++ chunk) (◌>>=◌ {A = List (List ℕ) × List ℕ} {B = List ℕ × List ℕ} read (λ x. Ok (joined_pieces x.0, x.1)))
    regroup_joined front chunk (Ok x) = ap (λ (xs : List ℕ). Ok (xs, x.1)) (sym (append_assoc front chunk (joined_pieces x.0)))
    regroup_joined front chunk (Err f) = refl

pub joins_end : {S : Type 0} (e : Stop) (r : S → List ℕ → Result (List ℕ × List ℕ) Fault) (next : S → List ℕ → S) (s : S) (front : List ℕ) (count i : ℕ) (bytes : List ℕ) (total : Result (List ℕ × List ℕ) Fault)
    → i < count → Fails e (r s bytes) → with_front front (made joined_pieces (many r next s (count - i)) bytes) ≡ total → Fails e total
unfolding many
joins_end stops.Memory r next s front count i bytes total lt h has = tt
joins_end (stops.At f) r next s front count i bytes total lt h has =
    let k : count - i ≡ suc (count - (i + 1)) = omega arith in
    let one : with_front front (made joined_pieces (many r next s (count - i)) bytes) ≡ Err f = rw (k, h) refl in
    sym has ∙ one

pub joins_done : {S : Type 0} (r : S → List ℕ → Result (List ℕ × List ℕ) Fault) (next : S → List ℕ → S) (s : S) (front : List ℕ) (count i : ℕ) (bytes : List ℕ) (total : Result (List ℕ × List ℕ) Fault)
    → count ≤ i → with_front front (made joined_pieces (many r next s (count - i)) bytes) ≡ total → total ≡ Ok (front, bytes)
unfolding many
joins_done r next s front count i bytes total le has =
    let k : count - i ≡ 0 = omega arith in
    let one : with_front front (made joined_pieces (many r next s (count - i)) bytes) ≡ Ok (front, bytes) = rw k (ap (λ (xs : List ℕ). Ok (xs, bytes)) (append-nil front)) in
    sym has ∙ one
