-- What a set leaves at each subscript.
use Rattle.std.proofs.Common.{◌≡◌, ◌+◌, ◌-◌, ℕ, zero, suc, ℤ, pos, negsuc, List, [], ◌∷◌, ◌++◌, length, get_or, cond, Option, None, refl, ap, sym, ◌∙◌, arith, inl, inr}
use Rattle.std.specs.Prelude.{◌-ℤ◌, int_lt, ◌≤ℤ◌, ◌<ℤ◌, replicate}
use Rattle.std.specs.Ordering.{int_eq}
use Rattle.std.proofs.lemmas.Int.{ints}
use Rattle.std.proofs.lemmas.Bool.{cond-true, cond-false, cases_Bool, cases_lt}
use Rattle.std.proofs.lemmas.Bool.Decides.{Decides-int_eq, not_from_Decides}
use Rattle.std.proofs.lemmas.List.{get_or-set_same, get_or-set_other, get_or_append_left, get_or-append_right, length-append, length-replicate, get_or-replicate}
use Rattle.expanded_array.specs.Array.{Array, Empty, Bounded, element_at, element_above, elements_set, array_set, lower_bound}
use Rattle.expanded_array.proofs.ArrayLaws.{not_below, is_below}

-- nulls behind a list change no element
nulls_behind : (es : List (Option ℤ)) (n j : ℕ) → get_or (es ++ replicate n None) j None ≡ get_or es j None
nulls_behind [] zero j = refl
nulls_behind [] (suc n) zero = refl
nulls_behind [] (suc n) (suc j) = nulls_behind [] n j
nulls_behind (e ∷ es) n zero = refl
nulls_behind (e ∷ es) n (suc j) = nulls_behind es n j

above_negative : (es : List (Option ℤ)) (d : ℤ) → d <ℤ pos 0 → element_above es d ≡ None
above_negative es (negsuc k) h = refl
above_negative es (pos k) h = absurd (omega (arith, ints))

-- nulls before a list shift its elements
nulls_before : (es : List (Option ℤ)) (n j : ℕ) → get_or (replicate n None ++ es) j None ≡ element_above es (pos j -ℤ pos n)
nulls_before es n j = elim (cases_lt j n) [
  | inl before ↦
      let short : length (replicate {A = Option ℤ} n None) ≡ n = length-replicate {A = Option ℤ} n None in
      let negative : (pos j -ℤ pos n) <ℤ pos 0 = omega (arith, ints) in
      get_or_append_left (replicate n None) es None j (omega arith) ∙ get_or-replicate n j None None before ∙ sym (above_negative es (pos j -ℤ pos n) negative)
  | inr behind ↦
      let index : pos j -ℤ pos n ≡ pos (j - n) = omega (arith, ints) in
      get_or-append_right (replicate n None) es n j None (length-replicate {A = Option ℤ} n None) behind ∙ ap (element_above es) (sym index)
]

above_at : (es : List (Option ℤ)) (k : ℕ) (v : Option ℤ) (d : ℤ) → (d ≡ pos k → ⊥) → element_above (elements_set es (pos k) v) d ≡ element_above es d
above_at es k v (negsuc j) ne = refl
above_at es k v (pos j) ne = get_or-set_other (es ++ replicate (k + 1 - length es) None) k j v None (λ e. ne (ap pos e)) ∙ nulls_behind es (k + 1 - length es) j

above_same : (es : List (Option ℤ)) (k : ℕ) (v : Option ℤ) → element_above (elements_set es (pos k) v) (pos k) ≡ v
above_same es k v = get_or-set_same (es ++ replicate (k + 1 - length es) None) k v None (omega (arith, length-append es (replicate (k + 1 - length es) None), length-replicate {A = Option ℤ} (k + 1 - length es) None))

below_at : (es : List (Option ℤ)) (k : ℕ) (v : Option ℤ) (d : ℤ) → (d ≡ pos 0 → ⊥) → element_above (elements_set es (negsuc k) v) d ≡ element_above es (d -ℤ pos (k + 1))
below_at es k v (negsuc m) ne =
    let negative : (negsuc m -ℤ pos (k + 1)) <ℤ pos 0 = omega (arith, ints) in
    sym (above_negative es (negsuc m -ℤ pos (k + 1)) negative)
below_at es k v (pos zero) ne = absurd (ne refl)
below_at es k v (pos (suc j)) ne =
    let index : pos j -ℤ pos k ≡ pos (suc j) -ℤ pos (k + 1) = omega (arith, ints) in
    nulls_before es k j ∙ ap (element_above es) index

alone : (v : Option ℤ) (d : ℤ) → (d ≡ pos 0 → ⊥) → element_above (v ∷ []) d ≡ None
alone v (negsuc m) ne = refl
alone v (pos zero) ne = absurd (ne refl)
alone v (pos (suc j)) ne = refl

empty_changes : (sub other : ℤ) (v : Option ℤ) → element_above (v ∷ []) (other -ℤ sub) ≡ cond (int_eq other sub) v None
empty_changes sub other v = elim (cases_Bool (int_eq other sub)) [
  | inl same ↦
      let equal : other ≡ sub = (Decides-int_eq other sub).0 same in
      let first : other -ℤ sub ≡ pos 0 = omega (arith, ints) in
      ap (element_above (v ∷ [])) first ∙ sym (cond-true (int_eq other sub) v None same)
  | inr apart ↦
      alone v (other -ℤ sub) (λ e. not_from_Decides _ (Decides-int_eq other sub) apart (omega (arith, ints)))
      ∙ sym (cond-false (int_eq other sub) v None apart)
]

bounded_changes : (lower : ℤ) (es : List (Option ℤ)) (sub other : ℤ) (v : Option ℤ) (d : ℤ) → d ≡ sub -ℤ lower → element_above (elements_set es d v) (other -ℤ lower_bound lower sub) ≡ cond (int_eq other sub) v (element_above es (other -ℤ lower))
bounded_changes lower es sub other v (pos k) e =
    let up : lower ≤ℤ sub = omega (arith, ints) in
    let same_lower : lower_bound lower sub ≡ lower = cond-false (int_lt sub lower) sub lower (not_below lower sub up) in
    ap (λ l. element_above (elements_set es (pos k) v) (other -ℤ l)) same_lower
    ∙ elim (cases_Bool (int_eq other sub)) as (λ b. element_above (elements_set es (pos k) v) (other -ℤ lower) ≡ cond (int_eq other sub) v (element_above es (other -ℤ lower))) [
      | inl same ↦
          let equal : other ≡ sub = (Decides-int_eq other sub).0 same in
          let index : other -ℤ lower ≡ pos k = omega (arith, ints) in
          ap (element_above (elements_set es (pos k) v)) index ∙ above_same es k v ∙ sym (cond-true (int_eq other sub) v _ same)
      | inr apart ↦
          above_at es k v (other -ℤ lower) (λ h. not_from_Decides _ (Decides-int_eq other sub) apart (omega (arith, ints)))
          ∙ sym (cond-false (int_eq other sub) v _ apart)
    ]
bounded_changes lower es sub other v (negsuc k) e =
    let down : sub <ℤ lower = omega (arith, ints) in
    let same_lower : lower_bound lower sub ≡ sub = cond-true (int_lt sub lower) sub lower (is_below lower sub down) in
    ap (λ l. element_above (elements_set es (negsuc k) v) (other -ℤ l)) same_lower
    ∙ elim (cases_Bool (int_eq other sub)) as (λ b. element_above (elements_set es (negsuc k) v) (other -ℤ sub) ≡ cond (int_eq other sub) v (element_above es (other -ℤ lower))) [
      | inl same ↦
          let equal : other ≡ sub = (Decides-int_eq other sub).0 same in
          let first : other -ℤ sub ≡ pos 0 = omega (arith, ints) in
          ap (element_above (elements_set es (negsuc k) v)) first ∙ sym (cond-true (int_eq other sub) v _ same)
      | inr apart ↦
          let shift : (other -ℤ sub) -ℤ pos (k + 1) ≡ other -ℤ lower = omega (arith, ints) in
          below_at es k v (other -ℤ sub) (λ h. not_from_Decides _ (Decides-int_eq other sub) apart (omega (arith, ints)))
          ∙ ap (element_above es) shift ∙ sym (cond-false (int_eq other sub) v _ apart)
    ]

pub set_changes : (a : Array) (sub other : ℤ) (value : Option ℤ) → element_at (array_set a sub value) other ≡ cond (int_eq other sub) value (element_at a other)
set_changes Empty sub other value = empty_changes sub other value
set_changes (Bounded lower es) sub other value = bounded_changes lower es sub other value (sub -ℤ lower) refl
