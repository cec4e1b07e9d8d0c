-- One more piece of a text.
use Rattle.std.proofs.Common.{◌≡◌, ℕ, ◌+◌, ◌-◌, ◌≤◌, List, ◌++◌, take, drop, length, min, sym, ap, ◌∙◌, append_assoc, take-add, take-take, length-drop, length-append, arith}
use Rattle.std.proofs.lemmas.List.{length-take}
use Rattle.std.proofs.lemmas.Grind.{common_steps}

pub added_more : (old now new text : List ℕ) (at n : ℕ) → at ≤ length text → n ≤ length (take (length text - at) (drop at text)) → now ≡ old ++ take at text → new ≡ now ++ take n (take (length text - at) (drop at text)) → new ≡ old ++ take (at + n) text
added_more old now new text at n within fits is_now is_new =
    let n_le : n ≤ length text - at = omega (arith, fits, length-take (length text - at) (drop at text)) in
    is_new ∙ ap (λ xs. now ++ xs) (take-take n (length text - at) (drop at text) n_le)
    ∙ ap (λ xs. xs ++ take n (drop at text)) is_now
    ∙ append_assoc old (take at text) (take n (drop at text)) ∙ ap (λ xs. old ++ xs) (sym (take-add at n text))

pub within_more : (text : List ℕ) (at n : ℕ) → at ≤ length text → n ≤ length (take (length text - at) (drop at text)) → at + n ≤ length text
within_more text at n within fits = omega (arith, within, fits, length-take (length text - at) (drop at text), length-drop at text)

-- what a read gave is the file's next bytes
pub given : (next piece rest : List ℕ) (n : ℕ) → n ≤ length next → take n ((take n next ++ drop n piece) ++ rest) ≡ take n next
given next piece rest n fits = grind (arith, common_steps)

pub front_more : (old new file out piece rest : List ℕ) (n : ℕ) → old ≡ take (length old) file → n ≡ min (length piece) (length file - length old) → out ≡ take n (drop (length old) file) ++ drop n piece → new ≡ old ++ take n (out ++ rest) → new ≡ take (length new) file
front_more old new file out piece rest n front count is_out is_new =
    let fits : n ≤ length (drop (length old) file) = omega (arith, count, length-drop (length old) file) in
    let is : new ≡ old ++ take n (drop (length old) file) = is_new ∙ ap (λ xs. old ++ xs) (ap (λ xs. take n (xs ++ rest)) is_out ∙ given (drop (length old) file) piece rest n fits) in
    let long : length new ≡ length old + n = rw is (omega (arith, length-append old (take n (drop (length old) file)), length-take n (drop (length old) file), fits)) in
    is ∙ ap (λ xs. xs ++ take n (drop (length old) file)) front ∙ sym (take-add (length old) n file) ∙ ap (λ k. take k file) (sym long)
