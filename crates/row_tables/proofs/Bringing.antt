-- A row while values are brought into it, cell after cell: those before a place are brought, and the rest are as they were.
use Rattle.std.proofs.Common.{◌≡◌, ℕ, zero, suc, ◌+◌, ◌<◌, ◌≤◌, Bool, true, false, List, [], ◌∷◌, length, take, set, get_or, Option, Some, None, refl, sym, ap, ◌∙◌, arith}
use Rattle.std.proofs.lemmas.List.{length-set, set-get_or, take_all}
use Rattle.lo_base.specs.declared.value.Cell.{Cell}
use Rattle.xact_core.specs.declared.snapshot.Snapshot.{Snapshot}
use Rattle.xact_core.specs.Transactions.{Transactions}
use Rattle.toast_chunks.specs.declared.chunks.Chunks.{Chunks}
use Rattle.row_tables.specs.Cells.{Told, all_brought, brought}
use Rattle.row_tables.specs.Outside.{HasItsValue, HasOutside, cell_or}
use Rattle.row_tables.proofs.Places.{each_at}

module _ (told : ℕ → Told) where
  pub brought_length : (os : List Bool) (old : List Cell) → length (all_brought told os old) ≡ length old
  brought_length [] old = refl
  brought_length (o ∷ os) [] = refl
  brought_length (o ∷ os) (c ∷ cs) = ap suc (brought_length os cs)

  pub brought_behind : (os : List Bool) (old : List Cell) (i : ℕ) (d : Cell) → get_or (all_brought told (take i os) old) i d ≡ get_or old i d
  brought_behind os old zero d = refl
  brought_behind [] old (suc i) d = refl
  brought_behind (o ∷ os) [] (suc i) d = refl
  brought_behind (o ∷ os) (c ∷ cs) (suc i) d = brought_behind os cs i d

  brought_set : (os : List Bool) (old : List Cell) (i : ℕ) (o : Bool) (c : Cell) → i < length os → i < length old → o ≡ get_or os i o → c ≡ get_or old i c → set (all_brought told (take i os) old) i (brought told o c) ≡ all_brought told (take (suc i) os) old
  brought_set [] old i o c a b p q = absurd (omega (arith, a))
  brought_set (o' ∷ os) [] i o c a b p q = absurd (omega (arith, b))
  brought_set (o' ∷ os) (c' ∷ cs) zero o c a b p q = ap (λ t. brought told t c ∷ cs) p ∙ ap (λ d. brought told o' d ∷ cs) q
  brought_set (o' ∷ os) (c' ∷ cs) (suc i) o c a b p q = ap (λ ds. brought told o' c' ∷ ds) (brought_set os cs i o c (omega (arith, a)) (omega (arith, b)) p q)

  -- the next cell is brought
  pub brought_next : (os : List Bool) (old row : List Cell) (i : ℕ) (o : Bool) (c y : Cell) → i < length os → i < length old → o ≡ get_or os i o → c ≡ get_or row i c → y ≡ brought told o c → row ≡ all_brought told (take i os) old → set row i y ≡ all_brought told (take (i + 1) os) old
  brought_next os old row i o c y a b p q is same =
      let at : c ≡ get_or old i c = q ∙ ap (λ (r : List Cell). get_or r i c) same ∙ brought_behind os old i c in
      let on : suc i ≡ i + 1 = omega arith in
      ap (λ d. set row i d) is ∙ ap (λ (r : List Cell). set r i (brought told o c)) same ∙ brought_set os old i o c a b p at ∙ ap (λ n. all_brought told (take n os) old) on

  -- the next cell stays as it is
  pub brought_same : (os : List Bool) (old row : List Cell) (i : ℕ) (o : Bool) (c : Cell) → i < length os → i < length old → o ≡ get_or os i o → c ≡ get_or row i c → c ≡ brought told o c → row ≡ all_brought told (take i os) old → row ≡ all_brought told (take (i + 1) os) old
  brought_same os old row i o c a b p q is same =
      sym (set-get_or row i c) ∙ ap (λ d. set row i d) (sym q) ∙ brought_next os old row i o c c a b p q is same

  -- its value is there
  pub value_at : (x : Transactions) (v : Snapshot) (chunks : Chunks) (os : List Bool) (old row : List Cell) (i : ℕ) (c : Cell) → i < length old → c ≡ get_or row i c → row ≡ all_brought told (take i os) old → HasOutside told x v chunks old → HasItsValue told x v chunks c
  value_at x v chunks os old row i c less is same has = each_at (HasItsValue told x v chunks) old i c has less (is ∙ ap (λ (r : List Cell). get_or r i c) same ∙ brought_behind os old i c)

  pub brought_all : (os : List Bool) (old row : List Cell) (n : ℕ) → length os ≤ n → row ≡ all_brought told (take n os) old → row ≡ all_brought told os old
  brought_all os old row n least same = same ∙ ap (λ ps. all_brought told ps old) (take_all n os least)

module _ (x : Transactions) (v : Snapshot) (chunks : Chunks) where
  -- the cells before a place are brought, where the view has the values
  pub record BroughtTo (os : List Bool) (old now : List Cell) : Type 0 where
    pub room : length now ≡ length old
    pub brought_so : (told : ℕ → Told) → HasOutside told x v chunks old → now ≡ all_brought told os old

  pub bringing_start : (os : List Bool) (old : List Cell) → BroughtTo (take 0 os) old old
  bringing_start os old = record { room = refl; brought_so = λ told has. refl }

  module _ (os : List Bool) (old now : List Cell) (i : ℕ) (so_far : BroughtTo (take i os) old now) (many : length os ≡ length old) (less : i < length old) where
    -- the next cell with what was found for it
    pub bringing_some : (new : List Cell) (o : Bool) (c y : Cell) (found : Option Cell) → o ≡ get_or os i o → o ≡ false → c ≡ get_or now i c → found ≡ Some y → ((told : ℕ → Told) → HasItsValue told x v chunks c → cell_or found c ≡ brought told false c) → new ≡ set now i y → BroughtTo (take (i + 1) os) old new
    bringing_some new o c y found at inside is some brings same = record {
      room = ap (λ (r : List Cell). length r) same ∙ length-set now i y ∙ so_far.room;
      brought_so = brought_so;
    }
      where
        brought_so : (told : ℕ → Told) → HasOutside told x v chunks old → new ≡ all_brought told (take (i + 1) os) old
        brought_so told has =
            let front : now ≡ all_brought told (take i os) old = so_far.brought_so told has in
            let here : y ≡ brought told false c = ap (λ f. cell_or f c) (sym some) ∙ brings told (value_at told x v chunks os old now i c less is front has) in
            same ∙ brought_next told os old now i o c y (omega (arith, many, less)) less at is (here ∙ ap (λ t. brought told t c) (sym inside)) front

    pub bringing_none : (new : List Cell) (o : Bool) (c : Cell) (found : Option Cell) → o ≡ get_or os i o → o ≡ false → c ≡ get_or now i c → found ≡ None → ((told : ℕ → Told) → HasItsValue told x v chunks c → cell_or found c ≡ brought told false c) → new ≡ now → BroughtTo (take (i + 1) os) old new
    bringing_none new o c found at inside is none brings same = record {
      room = ap (λ (r : List Cell). length r) same ∙ so_far.room;
      brought_so = brought_so;
    }
      where
        brought_so : (told : ℕ → Told) → HasOutside told x v chunks old → new ≡ all_brought told (take (i + 1) os) old
        brought_so told has =
            let front : now ≡ all_brought told (take i os) old = so_far.brought_so told has in
            let here : c ≡ brought told false c = ap (λ f. cell_or f c) (sym none) ∙ brings told (value_at told x v chunks os old now i c less is front has) in
            same ∙ brought_same told os old now i o c (omega (arith, many, less)) less at is (here ∙ ap (λ t. brought told t c) (sym inside)) front

    -- the next value stays outside
    pub bringing_past : (new : List Cell) (o : Bool) (c : Cell) → o ≡ get_or os i o → o ≡ true → c ≡ get_or now i c → new ≡ now → BroughtTo (take (i + 1) os) old new
    bringing_past new o c at out is same = record {
      room = ap (λ (r : List Cell). length r) same ∙ so_far.room;
      brought_so = λ told has. same ∙ brought_same told os old now i o c (omega (arith, many, less)) less at is (ap (λ t. brought told t c) (sym out)) (so_far.brought_so told has);
    }

  pub bringing_all : (os : List Bool) (old now : List Cell) (n : ℕ) → length os ≤ n → BroughtTo (take n os) old now → (told : ℕ → Told) → HasOutside told x v chunks old → now ≡ all_brought told os old
  bringing_all os old now n least done told has = brought_all told os old now n least (done.brought_so told has)
