-- The array that is computed of a whole text is the one that it spells.
use Rattle.std.proofs.Common.{◌≡◌, ◌+◌, ◌-◌, ◌<◌, ℕ, ℤ, pos, List, [], ◌∷◌, ◌++◌, length, take, drop, get_or, cond, Option, Some, None, refl, ap, ap₂, sym, subst, ◌∙◌, arith, inl, inr}
use Rattle.std.specs.Prelude.{◌==◌, FitsSigned, bytes_eq, codes, int_le, option_map}
use Rattle.std.specs.Int.{w32}
use Rattle.std.specs.Fmt.{signed_decimal}
use Rattle.std.specs.List.{AllZip, slice_split, before_first, after_first, position_or_len}
use Rattle.std.specs.Option.{option_and_then}
use Rattle.std.proofs.lemmas.Bool.{cases_Bool, cond-true, cond-false, eq-eqb, eqb-true, ne_eqb}
use Rattle.std.proofs.lemmas.List.{append_assoc, drop_at, get_or_append_left, get_or_at, length-append, length-drop, take_at}
use Rattle.std.proofs.lemmas.List.Sums.{passes_at_first, position_or_len_is, split_at_first}
use Rattle.std.proofs.lemmas.Option.{cond_some, option_and_then_some, same_Some}
use Rattle.std.proofs.lemmas.Slice.Eq.{bytes_eq-Decides}
use Rattle.expanded_array.specs.Array.{Array, Empty, Bounded, last_of, last_limit}
use Rattle.expanded_array.specs.Text.{explicit_bounds}
use Rattle.expanded_array.specs.Spelling.{Spells, SpellsBounded, SpellsBounds, SpellsElement, is_comma}
use Rattle.expanded_array.specs.Read.{array_behind, array_between, array_from, array_of_text, array_with, before_brace, element_of, elements_of_parts, if_bounds, lower_of_bounds, number_of}
use Rattle.expanded_array.proofs.FlatLaws.{le_tells, tells_le}
use Rattle.expanded_array.proofs.ReadLaws.{element_read, number_read, read_element, read_number}
use Rattle.expanded_array.proofs.Uniqueness.{HasNo, empty_no_bounded, explicit_behind, no_brace_bounds, no_colon_int4, number_spelled}

-- ---- where a byte first stands

first_at : (c : ℕ) (front rest : List ℕ) → HasNo c front → position_or_len (λ b. b == c) (front ++ (c ∷ rest)) ≡ length front
first_at c front rest none =
    position_or_len_is (λ b. b == c) (front ++ (c ∷ rest)) (length front) 0 (omega (arith, length-append front (c ∷ rest)))
    (λ k lt. ne_eqb _ _ (λ e. none k lt (sym (get_or_append_left front (c ∷ rest) 0 k lt) ∙ e)))
    (λ lt. eq-eqb _ _ (get_or_at front c rest 0 (length front) refl))

before_is : (c : ℕ) (front rest : List ℕ) → HasNo c front → before_first (λ b. b == c) (front ++ (c ∷ rest)) ≡ front
before_is c front rest none = ap (λ n. take n (front ++ (c ∷ rest))) (first_at c front rest none) ∙ take_at front (c ∷ rest) (length front) refl

after_is : (c : ℕ) (front rest : List ℕ) → HasNo c front → after_first (λ b. b == c) (front ++ (c ∷ rest)) ≡ rest
after_is c front rest none =
    ap (λ n. drop (n + 1) (front ++ (c ∷ rest))) (first_at c front rest none)
    ∙ ap (drop (length front + 1)) (sym (append_assoc front (c ∷ []) rest))
    ∙ drop_at (front ++ c ∷ []) rest (length front + 1) (length-append front (c ∷ []))

-- a text is what stands before a byte, the byte, and what stands behind it, if anything does
cut_at : (c : ℕ) (text : List ℕ) → 0 < length (after_first (λ b. b == c) text) → text ≡ before_first (λ b. b == c) text ++ (c ∷ after_first (λ b. b == c) text)
cut_at c text some =
    let at = position_or_len (λ b. b == c) text in
    let within : at < length text = omega (arith, some, length-drop (at + 1) text) in
    let here : get_or text at 0 ≡ c = eqb-true (get_or text at 0) c (passes_at_first (λ b. b == c) text 0 within) in
    split_at_first (λ b. b == c) text 0 within ∙ ap (λ b. before_first (λ b. b == c) text ++ (b ∷ after_first (λ b. b == c) text)) here

-- ---- elements

parts_read : (parts : List (List ℕ)) (es : List (Option ℤ)) → AllZip SpellsElement parts es → elements_of_parts parts ≡ Some es
parts_read [] [] h = refl
parts_read [] (e ∷ es) h = absurd h
parts_read (part ∷ parts) [] h = absurd h
parts_read (part ∷ parts) (e ∷ es) h =
    ap (option_and_then (λ x. option_map (λ xs. x ∷ xs) (elements_of_parts parts))) (element_read part e h.0)
    ∙ ap (option_map (λ xs. e ∷ xs)) (parts_read parts es h.1)

part_shown : (part : List ℕ) (parts : List (List ℕ)) (o : Option (Option ℤ)) (os : Option (List (Option ℤ))) (es : List (Option ℤ)) → element_of part ≡ o → option_and_then (λ x. option_map (λ xs. x ∷ xs) os) o ≡ Some es → ((xs : List (Option ℤ)) → os ≡ Some xs → AllZip SpellsElement parts xs) → AllZip SpellsElement (part ∷ parts) es
part_shown part parts None os es is e others = absurd (let none : None ≡ Some es = e in cc)
part_shown part parts (Some x) None es is e others = absurd (let none : None ≡ Some es = e in cc)
part_shown part parts (Some x) (Some xs) es is e others =
    subst (AllZip SpellsElement (part ∷ parts)) (same_Some (x ∷ xs) es e) (read_element part x is, others xs refl)

parts_shown : (parts : List (List ℕ)) (es : List (Option ℤ)) → elements_of_parts parts ≡ Some es → AllZip SpellsElement parts es
parts_shown [] es e = subst (AllZip SpellsElement []) (same_Some [] es e) tt
parts_shown (part ∷ parts) es e = part_shown part parts (element_of part) (elements_of_parts parts) es refl e (λ xs is. parts_shown parts xs is)

-- ---- bounds

explicit_read : (lower : ℤ) (count : ℕ) → FitsSigned w32 lower → lower_of_bounds (91 ∷ (signed_decimal lower ++ (58 ∷ (signed_decimal (last_of lower count) ++ codes "]=")))) count ≡ Some lower
explicit_read lower count fits =
    let rest = signed_decimal (last_of lower count) ++ codes "]=" in
    let bytes = 91 ∷ (signed_decimal lower ++ (58 ∷ rest)) in
    let n = number_spelled lower fits in
    ap (λ number. option_and_then (if_bounds bytes count) (number_of number)) (before_is 58 (signed_decimal lower) rest (no_colon_int4 lower fits))
    ∙ ap (option_and_then (if_bounds bytes count)) (number_read (signed_decimal lower) lower n.0 n.1 n.2)
    ∙ cond-true (bytes_eq bytes (explicit_bounds lower count)) (Some lower) None ((bytes_eq-Decides bytes (explicit_bounds lower count)).1 (sym (explicit_behind lower count)))

lower_read : (bytes : List ℕ) (lower : ℤ) (count : ℕ) → FitsSigned w32 lower → SpellsBounds bytes lower count → lower_of_bounds bytes count ≡ Some lower
lower_read bytes lower count fits (inl one) = ap (λ bs. lower_of_bounds bs count) one.0 ∙ ap (λ z. Some z) (sym one.1)
lower_read bytes lower count fits (inr explicit) = ap (λ bs. lower_of_bounds bs count) (explicit ∙ explicit_behind lower count) ∙ explicit_read lower count fits

pub record AreBounds (bytes : List ℕ) (lower : ℤ) (count : ℕ) : Type 0 where
  pub spelled : SpellsBounds bytes lower count
  pub fits : FitsSigned w32 lower

lower_shown : (bytes : List ℕ) (lower : ℤ) (count : ℕ) → lower_of_bounds bytes count ≡ Some lower → AreBounds bytes lower count
lower_shown [] lower count e =
    let same : pos 1 ≡ lower = same_Some (pos 1) lower e in
    record { spelled = inl (refl, sym same); fits = subst (FitsSigned w32) same (record { sfits = omega arith }) }
lower_shown (b ∷ bytes) lower count e =
    option_and_then_some (if_bounds (b ∷ bytes) count) (number_of (before_first (λ c. c == 58) bytes)) lower e (λ z is then.
    let t = cond_some (bytes_eq (b ∷ bytes) (explicit_bounds z count)) z lower then in
    let n = read_number (before_first (λ c. c == 58) bytes) z is in
    record {
      spelled = inr ((bytes_eq-Decides (b ∷ bytes) (explicit_bounds z count)).0 t.0 ∙ ap (λ y. explicit_bounds y count) t.1);
      fits = subst (FitsSigned w32) t.1 n.fits;
    })

-- ---- texts

brace_read : (body : List ℕ) → before_brace (body ++ codes "}") ≡ Some body
brace_read body =
    let behind = body ++ codes "}" in
    let len : length behind - 1 ≡ length body = omega (arith, length-append body (codes "}")) in
    let front : take (length behind - 1) behind ≡ body = ap (λ n. take n behind) len ∙ take_at body (codes "}") (length body) refl in
    ap (λ b. cond (bytes_eq behind (b ++ codes "}")) (Some b) None) front ∙ cond-true (bytes_eq behind behind) (Some body) None ((bytes_eq-Decides behind behind).1 refl)

behind_read : (text : List ℕ) (l : ℤ) (es : List (Option ℤ)) (s : SpellsBounded text l es) → array_behind s.bounds (s.body ++ codes "}") ≡ Some (Bounded l es)
behind_read text l es s =
    ap (option_and_then (array_between s.bounds)) (brace_read s.body)
    ∙ ap (option_and_then (array_with s.bounds)) (parts_read (slice_split is_comma s.body) es s.elements_are)
    ∙ ap (option_and_then (array_from es)) (lower_read s.bounds l (length es) s.int4 s.bounds_are)
    ∙ cond-true (int_le (last_of l (length es)) last_limit) (Some (Bounded l es)) None (le_tells (last_of l (length es)) last_limit s.last)

bounded_read : (text : List ℕ) (l : ℤ) (es : List (Option ℤ)) → SpellsBounded text l es → array_of_text text ≡ Some (Bounded l es)
bounded_read text l es s =
    let braces : text ≡ s.bounds ++ (123 ∷ (s.body ++ codes "}")) = s.whole ∙ append_assoc (s.bounds ++ codes "{") s.body (codes "}") ∙ append_assoc s.bounds (codes "{") (s.body ++ codes "}") in
    let none = no_brace_bounds s.bounds l (length es) s.int4 s.last s.bounds_are in
    elim (cases_Bool (bytes_eq text (codes "{}"))) [
      | inl full ↦ absurd (empty_no_bounded l es (subst (λ t. SpellsBounded t l es) ((bytes_eq-Decides text (codes "{}")).0 full) s))
      | inr other ↦
          cond-false (bytes_eq text (codes "{}")) (Some Empty) _ other
          ∙ ap₂ array_behind (ap (before_first (λ c. c == 123)) braces ∙ before_is 123 s.bounds (s.body ++ codes "}") none) (ap (after_first (λ c. c == 123)) braces ∙ after_is 123 s.bounds (s.body ++ codes "}") none)
          ∙ behind_read text l es s
    ]

pub text_read : (text : List ℕ) (a : Array) → Spells text a → array_of_text text ≡ Some a
text_read text Empty h = cond-true (bytes_eq text (codes "{}")) (Some Empty) _ ((bytes_eq-Decides text (codes "{}")).1 h)
text_read text (Bounded l es) h = bounded_read text l es h

-- with the body found, the bounds and the elements make the array
between_shown : (text b body : List ℕ) (a : Array) → text ≡ b ++ (123 ∷ (body ++ codes "}")) → array_between b body ≡ Some a → Spells text a
between_shown text b body a whole e =
    option_and_then_some (array_with b) (elements_of_parts (slice_split is_comma body)) a e (λ es are with.
    option_and_then_some (array_from es) (lower_of_bounds b (length es)) a with (λ l low from.
    let last = cond_some (int_le (last_of l (length es)) last_limit) (Bounded l es) a from in
    let bounds = lower_shown b l (length es) low in
    let spelled : SpellsBounded text l es = record {
      bounds = b;
      body = body;
      whole = whole ∙ sym (append_assoc (b ++ codes "{") body (codes "}") ∙ append_assoc b (codes "{") (body ++ codes "}"));
      bounds_are = bounds.spelled;
      elements_are = parts_shown (slice_split is_comma body) es are;
      int4 = bounds.fits;
      last = tells_le (last_of l (length es)) last_limit last.0;
    } in
    subst (Spells text) last.1 spelled))

behind_shown : (text b behind : List ℕ) (a : Array) → (0 < length behind → text ≡ b ++ (123 ∷ behind)) → array_behind b behind ≡ Some a → Spells text a
behind_shown text b behind a cut e =
    option_and_then_some (array_between b) (before_brace behind) a e (λ body is then.
    let front = take (length behind - 1) behind in
    let found = cond_some (bytes_eq behind (front ++ codes "}")) front body is in
    let whole : behind ≡ body ++ codes "}" = (bytes_eq-Decides behind (front ++ codes "}")).0 found.0 ∙ ap (λ bs. bs ++ codes "}") found.1 in
    between_shown text b body a (cut (omega (arith, ap length whole, length-append body (codes "}"))) ∙ ap (λ bs. b ++ (123 ∷ bs)) whole) then)

pub text_shown : (text : List ℕ) (a : Array) → array_of_text text ≡ Some a → Spells text a
text_shown text a e =
    elim (cases_Bool (bytes_eq text (codes "{}"))) [
      | inl full ↦
          let same : Empty ≡ a = same_Some Empty a (sym (cond-true (bytes_eq text (codes "{}")) (Some Empty) _ full) ∙ e) in
          subst (Spells text) same ((bytes_eq-Decides text (codes "{}")).0 full)
      | inr other ↦
          behind_shown text (before_first (λ c. c == 123) text) (after_first (λ c. c == 123) text) a (λ some. cut_at 123 text some)
          (sym (cond-false (bytes_eq text (codes "{}")) (Some Empty) _ other) ∙ e)
    ]
