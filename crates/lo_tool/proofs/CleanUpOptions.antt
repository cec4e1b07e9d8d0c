-- The options of a clean-up that are read, and the words that are left.
use Rattle.std.proofs.Common.{◌≡◌, ◌≤◌, ◌<◌, refl, sym, ap, ◌∙◌, ℕ, ◌+◌, Bool, true, false, List, [], ◌∷◌, length, drop, map, Option, Some, None, get_or, arith}
use Rattle.std.specs.Prelude.{if◌then◌else◌}
use Rattle.std.proofs.Math.ListN.{get_or-map}
use Rattle.std.proofs.lemmas.List.{drop_more, drop_all}
use Rattle.lo_tool.specs.declared.words.CleanUp.{CleanUp}
use Rattle.lo_tool.specs.Command.{Command, RemoveOrphans, clean_up_command, is_file_name, takes_next, with_option}

abbrev no_command : Option Command
no_command = None

-- a text of a list of texts, at its place
pub text_at : {A : Type 0} (bytes : A → List ℕ) (xs : List A) (at : ℕ) (x : A) (word : List ℕ) → x ≡ get_or xs at x → word ≡ bytes x → word ≡ get_or (map bytes xs) at word
text_at bytes xs at x word here is = is ∙ (ap bytes here ∙ (sym (get_or-map bytes xs at x) ∙ ap (get_or (map bytes xs) at) (sym is)))

both_none : (b : Bool) → (if b then no_command else no_command) ≡ None
both_none true = refl
both_none false = refl

module _ (words : List (List ℕ)) (at : ℕ) (options : CleanUp) where
  module _ (word next : List ℕ) (within : at + 1 < length words) (word_is : word ≡ get_or words at word) (next_is : next ≡ get_or words (at + 1) next) where
    abbrev rest : List (List ℕ)
    rest = drop (at + 1 + 1) words

    -- the word behind it, and the words from there on
    next_left : drop (at + 1) words ≡ next ∷ rest
    next_left = drop_more words (at + 1) next within ∙ ap (λ (first : List ℕ). first ∷ rest) (sym next_is)

    here : drop at words ≡ word ∷ next ∷ rest
    here =
        drop_more words at word (omega (arith, within))
        ∙ (ap (λ (first : List ℕ). first ∷ drop (at + 1) words) (sym word_is)
        ∙ ap (λ (more : List (List ℕ)). word ∷ more) next_left)

    abbrev by_option : Bool → Option CleanUp → Option Command
    by_option takes given = if takes then clean_up_command given rest else clean_up_command given (next ∷ rest)

    reads : clean_up_command (Some options) (drop at words) ≡ by_option (takes_next word) (with_option options word next)
    reads = ap (clean_up_command (Some options)) here

    -- an option is read, with the word behind it where it takes that
    pub option_read : (given : CleanUp) → Some given ≡ with_option options word next → (takes : Bool) → takes ≡ takes_next word → clean_up_command (Some given) (drop (at + (if takes then 2 else 1)) words) ≡ clean_up_command (Some options) (drop at words)
    option_read given is true takes =
        sym (reads
        ∙ (ap (λ (b : Bool). by_option b (with_option options word next)) (sym takes)
        ∙ (ap (by_option true) (sym is)
        ∙ ap (λ (n : ℕ). clean_up_command (Some given) (drop n words)) (omega arith))))
    option_read given is false takes =
        sym (reads
        ∙ (ap (λ (b : Bool). by_option b (with_option options word next)) (sym takes)
        ∙ (ap (by_option false) (sym is)
        ∙ ap (clean_up_command (Some given)) (sym next_left))))

    -- a word that is no option leaves no command
    pub no_option : with_option options word next ≡ None → clean_up_command (Some options) (drop at words) ≡ None
    no_option none = reads ∙ (ap (by_option (takes_next word)) none ∙ both_none (takes_next word))
