-- A text with its bounds and the bytes between its braces, and the arrays that it spells.
use Rattle.std.proofs.Common.{◌≡◌, ◌<◌, ◌≤◌, ℕ, ℤ, List, [], ◌∷◌, ◌++◌, length, true, false, cond, Option, Result, Ok, Err, refl, ap, sym, subst, ◌∙◌, arith, inl, inr}
use Rattle.std.specs.Prelude.{◌≤ℤ◌, IfOk, IfErr, codes}
use Rattle.std.specs.List.{list_all, slice_split}
use Rattle.std.proofs.lemmas.Bool.{cases_Bool, true≢false}
use Rattle.std.proofs.lemmas.List.{append_assoc}
use Rattle.lo_base.specs.declared.refusal.Denied.{Denied}
use Rattle.lo_base.specs.declared.refusal.Denied.TheVariants.{By, NoMemory}
use Rattle.lo_base.specs.declared.refusal.Refusal.{Refusal}
use Rattle.expanded_array.specs.declared.expanded.Expanded.{Expanded}
use Rattle.expanded_array.specs.Answer.{too_big}
use Rattle.expanded_array.specs.Array.{Array, Empty, Bounded, IsHeld, last_of, last_limit, limit}
use Rattle.expanded_array.specs.Layout.{array_of}
use Rattle.expanded_array.specs.Kept.{expanded_array}
use Rattle.expanded_array.specs.Read.{is_element}
use Rattle.expanded_array.specs.Spelling.{HasBody, IsBoundedDenial, IsTextDenial, IsTooBig, Spells, SpellsBounded, SpellsBounds, SpellsElements, SpellsNone, is_comma, malformed}
use Rattle.expanded_array.proofs.ReadLaws.{all_elements, zip_all}
use Rattle.expanded_array.proofs.Uniqueness.{body_elements, length_all_zip_of, spelled_array, spelled_bounds}

-- as many elements as parts
pub parts_count : (body : List ℕ) (es : List (Option ℤ)) → SpellsElements body es → length es ≡ length (slice_split is_comma body)
parts_count body es h = sym (length_all_zip_of (slice_split is_comma body) es h)

-- elements between the braces make an array
pub body_spells : (text : List ℕ) (lower : ℤ) (count : ℕ) (body : List ℕ) (es : List (Option ℤ)) → HasBody text lower count body → SpellsElements body es → SpellsBounded text lower es
body_spells text lower count body es h are =
    let same : count ≡ length es = h.parts ∙ sym (parts_count body es are) in
    record {
      bounds = h.bounds;
      body = body;
      whole = h.whole ∙ sym (append_assoc (h.bounds ++ codes "{") body (codes "}") ∙ append_assoc h.bounds (codes "{") (body ++ codes "}"));
      bounds_are = subst (SpellsBounds h.bounds lower) same h.bounds_are;
      elements_are = are;
      int4 = h.int4;
      last = subst (λ n. last_of lower n ≤ℤ last_limit) same h.last;
    }

-- and an array that the text spells has elements there
pub spelled_body : (text : List ℕ) (lower l : ℤ) (count : ℕ) (body : List ℕ) (es : List (Option ℤ)) → HasBody text lower count body → SpellsBounded text l es → SpellsElements body es
spelled_body text lower l count body es h s = body_elements text h.bounds (body ++ codes "}") body l es h.whole h.first refl s

pub no_body : (text : List ℕ) (lower : ℤ) (count : ℕ) (body : List ℕ) → HasBody text lower count body → ((es : List (Option ℤ)) → SpellsElements body es → ⊥) → SpellsNone text
no_body text lower count body h none l es s = none es (spelled_body text lower l count body es h s)

too_many : (text : List ℕ) (lower : ℤ) (count : ℕ) (body : List ℕ) (es : List (Option ℤ)) (r : Refusal) → HasBody text lower count body → SpellsElements body es → limit < count → r ≡ too_big count → IsTooBig text r
too_many text lower count body es r h are many is =
    let same : count ≡ length es = h.parts ∙ sym (parts_count body es are) in
    record {
      array = Bounded lower es;
      spelled = body_spells text lower count body es h are;
      many = omega (arith, many, same);
      names = is ∙ ap too_big same;
    }

-- what is answered where there are too many parts
pub many_denied : (text : List ℕ) (lower : ℤ) (count : ℕ) (body : List ℕ) (d : Denied) → HasBody text lower count body → limit < count → d ≡ By (cond (list_all is_element (slice_split is_comma body)) (too_big count) malformed) → IsBoundedDenial text d
many_denied text lower count body d h many is =
    elim (cases_Bool (list_all is_element (slice_split is_comma body))) [
      | inl all ↦
          let elements = all_elements (slice_split is_comma body) all in
          let by : d ≡ By (too_big count) = is ∙ ap (λ b. By (cond b (too_big count) malformed)) all in
          subst (IsBoundedDenial text) (sym by) (inr (too_many text lower count body elements.elements (too_big count) h elements.are many refl))
      | inr some ↦
          let by : d ≡ By malformed = is ∙ ap (λ b. By (cond b (too_big count) malformed)) some in
          subst (IsBoundedDenial text) (sym by) (inl (refl, no_body text lower count body h (λ es are. true≢false (sym (zip_all (slice_split is_comma body) es are) ∙ some))))
    ]

pub malformed_denied : (text : List ℕ) (d : Denied) → d ≡ By malformed → SpellsNone text → IsBoundedDenial text d
malformed_denied text d is none = subst (IsBoundedDenial text) (sym is) (inl (refl, none))

-- ---- a text that is not the empty array's

none_spelled : (text : List ℕ) → (text ≡ codes "{}" → ⊥) → SpellsNone text → (a : Array) → Spells text a → ⊥
none_spelled text full none Empty h = full h
none_spelled text full none (Bounded l es) h = none l es h

pub denied_whole : (text : List ℕ) → (text ≡ codes "{}" → ⊥) → (r : Result Expanded Denied) → IfErr r (IsBoundedDenial text) → IfErr r (IsTextDenial text)
denied_whole text full (Ok e) h = h
denied_whole text full (Err NoMemory) h = h
denied_whole text full (Err (By refusal)) (inl bad) = inl (bad.0, none_spelled text full bad.1)
denied_whole text full (Err (By refusal)) (inr big) = inr big

pub spelled_whole : (text : List ℕ) (r : Result Expanded Denied) → IfOk r (λ e. SpellsBounded text e.lower e.elements) → IfOk r (λ e. Spells text (expanded_array e))
spelled_whole text (Ok e) h = (spelled_array text e.lower e.elements h).0
spelled_whole text (Err d) h = h

held_array : (lower : ℤ) (es : List (Option ℤ)) (text : List ℕ) → SpellsBounded text lower es → length es ≤ limit → IsHeld (array_of lower es)
held_array lower [] text s few = record { array = tt; few = omega arith }
held_array lower (e ∷ es) text s few = record { array = spelled_bounds text lower (e ∷ es) s; few = few }

pub held_whole : (text : List ℕ) (r : Result Expanded Denied) → IfOk r (λ e. SpellsBounded text e.lower e.elements) → IfOk r (λ e. length e.elements ≤ limit) → IfOk r (λ e. IsHeld (expanded_array e))
held_whole text (Ok e) h few = held_array e.lower e.elements text h few
held_whole text (Err d) h few = h
