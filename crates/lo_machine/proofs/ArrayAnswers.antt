-- Each request on array variables does what its row says.
use Rattle.std.proofs.Common.{◌≡◌, ◌≢◌, ℕ, ℤ, pos, true, List, [], ◌∷◌, Option, Some, None, is_none, refl, ap, sym, subst, ◌∙◌}
use Rattle.std.specs.Prelude.{is_some}
use Rattle.std.proofs.lemmas.Bool.{true≢false}
use Rattle.expanded_array.specs.Array.{Array, IsHeld, array_set, element_at, excess}
use Rattle.expanded_array.specs.Read.{array_of_text}
use Rattle.expanded_array.specs.Spelling.{IsTextDenial, Spells}
use Rattle.expanded_array.specs.Text.{array_text}
use Rattle.expanded_array.proofs.TextLaws.{text_read}
use Rattle.lo_base.specs.declared.refusal.Cause.TheVariants.{NoVariable}
use Rattle.lo_base.specs.declared.refusal.Denied.{Denied}
use Rattle.lo_base.specs.declared.refusal.Denied.TheVariants.{By, NoMemory}
use Rattle.lo_base.specs.declared.refusal.Refusal.{Refusal}
use Rattle.lo_base.specs.declared.reply.Reply.TheVariants.{Word, Text}
use Rattle.lo_base.specs.declared.reply.Word.TheVariants as words
use Rattle.lo_calls.specs.Terms.{when}
use Rattle.lo_pages.specs.Outcome.{first_of}
use Rattle.row_tables.specs.Terms.{refusal}
use Rattle.lo_machine.specs.ArrayRows.{array_line, elem_line, element_reply, no_variable_named, set_line, show_line, too_big_by, variable_set}
use Rattle.lo_machine.specs.Row.{Here}
use Rattle.lo_machine.specs.State.{Variable, variable_in}
use Rattle.lo_machine.specs.Values.{array_or_empty}
use Rattle.lo_machine.specs.Variables.{IsAs, IsElementDenial, SetsElement, DeniesElement, array_at}
use Rattle.lo_machine.specs.declared.variables.Variables.{Variables}
use Rattle.lo_machine.proofs.ArrayCalls.{IsGrant, IsWhy}
use Rattle.lo_machine.proofs.ArrayNames.{set_as}
use Rattle.lo_machine.proofs.ArrayTexts.{text_fits, text_denied}

-- a list with the same arrays under all names
pub same_lists : (own own' : Variables) → ((name : List ℕ) → array_at own' name ≡ array_at own name) → (mine : List Variable) → IsAs own mine → IsAs own' mine
same_lists own own' same mine is = record { named = λ name. same name ∙ is.named name }

-- array

pub made : (own own' : Variables) (name text : List ℕ) (a : Array) → Spells text a → IsHeld a → array_at own' name ≡ Some a → ((other : List ℕ) → other ≢ name → array_at own' other ≡ array_at own other) → IsGrant own own' (array_line name text) (Word words.Ok) (λ mine. variable_set name (array_or_empty (array_of_text text)) mine)
made own own' name text a spelled held put others = record {
  unrefused = λ here is. ap (λ (term : Option Refusal). first_of (term ∷ [])) (text_fits text a spelled held);
  granted = λ here is. refl;
  leaves = λ mine is. set_as own own' name (array_or_empty (array_of_text text)) mine (put ∙ ap Some (sym (ap array_or_empty (text_read text a spelled)))) others is;
}

pub unmade : (own : Variables) (name text : List ℕ) (denied : Denied) → IsTextDenial text denied → IsWhy own (array_line name text) denied
unmade own name text NoMemory why = tt
unmade own name text (By r) why = λ here is. ap (λ (term : Option Refusal). first_of (term ∷ [])) (text_denied text r why)

-- whether there is a variable

there_named : (here : Here) (name : List ℕ) → is_some (variable_in name here.variables) ≡ true → no_variable_named here name ≡ None
there_named here name there = by (variable_in name here.variables) there
  where
    by : (found : Option Array) → is_some found ≡ true → when (is_none found) NoVariable (pos 0) ≡ None
    by None is = absurd (true≢false (sym is))
    by (Some a) is = refl

none_named : (here : Here) (name : List ℕ) → None ≡ variable_in name here.variables → no_variable_named here name ≡ Some (refusal NoVariable (pos 0))
none_named here name none = ap (λ (found : Option Array). when (is_none found) NoVariable (pos 0)) (sym none)

-- set

pub set_one : (own own' : Variables) (name : List ℕ) (sub : ℤ) (value : Option ℤ) → SetsElement own own' name sub value → IsGrant own own' (set_line name sub value) (Word words.Ok) (λ mine. variable_set name (array_set (array_or_empty (variable_in name mine)) sub value) mine)
set_one own own' name sub value sets = record {
  unrefused = λ here is.
      let there = there_named here name (subst (λ (found : Option Array). is_some found ≡ true) (is.named name) sets.there) in
      let fits = subst (λ (found : Option Array). excess (array_or_empty found) sub ≡ None) (is.named name) sets.fits in
      ap (λ (term : Option Refusal). first_of (term ∷ too_big_by (excess (array_or_empty (variable_in name here.variables)) sub) ∷ [])) there
      ∙ ap (λ (many : Option ℕ). first_of (too_big_by many ∷ [])) fits;
  granted = λ here is. refl;
  leaves = λ mine is. set_as own own' name (array_set (array_or_empty (variable_in name mine)) sub value) mine (sets.own ∙ ap (λ (found : Option Array). Some (array_set (array_or_empty found) sub value)) (is.named name)) sets.others is;
}

pub unset : (own own' : Variables) (name : List ℕ) (sub : ℤ) (value : Option ℤ) (denied : Denied) → DeniesElement own own' name sub denied → IsWhy own (set_line name sub value) denied
unset own own' name sub value NoMemory why = tt
unset own own' name sub value (By r) why = λ here is. by here (variable_in name here.variables) refl (subst (λ (found : Option Array). IsElementDenial found sub (By r)) (is.named name) why.why)
  where
    by : (here : Here) (found : Option Array) → variable_in name here.variables ≡ found → IsElementDenial found sub (By r) → first_of (set_line name sub value here).refusals ≡ Some r
    by here None is why' =
        ap (λ (term : Option Refusal). first_of (term ∷ too_big_by (excess (array_or_empty (variable_in name here.variables)) sub) ∷ [])) (none_named here name (sym is))
        ∙ ap Some (sym why')
    by here (Some a) is why' = rw is (ap (λ (term : Option Refusal). first_of (term ∷ [])) why')

-- elem and show, of the array that was found

pub unnamed : (own : Variables) (name : List ℕ) → None ≡ array_at own name → (here : Here) → IsAs own here.variables → first_of (no_variable_named here name ∷ []) ≡ Some (refusal NoVariable (pos 0))
unnamed own name none here is = ap (λ (term : Option Refusal). first_of (term ∷ [])) (none_named here name (none ∙ is.named name))

module _ (own : Variables) (name : List ℕ) (a : Array) (found : Some a ≡ array_at own name) where
  found_here : (here : Here) → IsAs own here.variables → Some a ≡ variable_in name here.variables
  found_here here is = found ∙ is.named name

  named_here : (here : Here) → IsAs own here.variables → first_of (no_variable_named here name ∷ []) ≡ None
  named_here here is = ap (λ (term : Option Refusal). first_of (term ∷ [])) (there_named here name (sym (ap is_some (found_here here is))))

  pub element_told : (sub : ℤ) → IsGrant own own (elem_line name sub) (element_reply (element_at a sub)) (λ mine. mine)
  element_told sub = record {
    unrefused = named_here;
    granted = λ here is. let one = ap array_or_empty (found_here here is) in rw (← one) refl;
    leaves = λ mine is. is;
  }

  pub text_told : IsGrant own own (show_line name) (Text (array_text a)) (λ mine. mine)
  text_told = record {
    unrefused = named_here;
    granted = λ here is. let one = ap array_or_empty (found_here here is) in rw (← one) refl;
    leaves = λ mine is. is;
  }
