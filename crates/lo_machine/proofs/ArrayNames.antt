-- Array variables by name: what a change of one leaves under each name, in the server and in the state.
use Rattle.std.proofs.Common.{◌≡◌, ◌≢◌, ℕ, ℤ, Bool, true, false, not, cond, List, [], ◌∷◌, Option, Some, None, refl, ap, sym, subst, ◌∙◌, Vec, Global}
use Rattle.std.specs.Prelude.{bytes_eq, filter, if◌then◌else◌, is_some, Result, Ok, Err, OnOk, OnErr, IfErr}
use Rattle.std.specs.BTreeMap.{BTreeMap, get_by, insert_entry, is_at}
use Rattle.std.specs.Map.{lookup, set_value}
use Rattle.std.proofs.lemmas.Bool.{true≢false, false≢true}
use Rattle.std.proofs.lemmas.Map.Steps.{set_value_same}
use Rattle.std.proofs.lemmas.Slice.Eq.{bytes_eq-Decides}
use Rattle.expanded_array.specs.Answer.{IsSetDenial}
use Rattle.expanded_array.specs.Array.{Array, array_set, excess}
use Rattle.lo_base.specs.declared.refusal.Denied.{Denied}
use Rattle.lo_base.specs.declared.refusal.Denied.TheVariants.{By, NoMemory}
use Rattle.row_tables.proofs.Indexing.{at_name, by_bytes, found_inserted, same_order}
use Rattle.lo_machine.specs.ArrayRows.{too_big_by, variable_set}
use Rattle.lo_machine.specs.State.{Variable, variable_in}
use Rattle.lo_machine.specs.Values.{array_or_empty}
use Rattle.lo_machine.specs.Variables.{IsAs, IsElementDenial, SetsElement, DeniesElement, array_at}
use Rattle.lo_machine.specs.declared.variables.Variables.{Variables}

abbrev pub Key : Type 0
Key = Vec ℕ Global

-- in the server: an array was put under a name

pub array_put : (old new : BTreeMap Key Array) (key : Key) (array : Array) (name : List ℕ) → key.items ≡ name → new.entries ≡ insert_entry by_bytes old.entries key array → (other : List ℕ) → get_by (at_name other) new ≡ cond (bytes_eq name other) (Some array) (get_by (at_name other) old)
array_put old new key array name named put other =
    ap (lookup (is_at (at_name other))) put
    ∙ (found_inserted other key array old.entries
    ∙ ap (λ (b : Bool). cond b (Some array) (get_by (at_name other) old)) (same_order other key.items ∙ ap (λ (l : List ℕ). bytes_eq l other) named))

pub same_name : (name : List ℕ) → bytes_eq name name ≡ true
same_name name = (bytes_eq-Decides name name).1 refl

pub other_name : (name other : List ℕ) → other ≢ name → bytes_eq name other ≡ false
other_name name other apart = by (bytes_eq name other) refl
  where
    by : (b : Bool) → bytes_eq name other ≡ b → b ≡ false
    by true same = absurd (apart (sym ((bytes_eq-Decides name other).0 same)))
    by false same = refl

-- in the state

others_left : (name other : List ℕ) → bytes_eq name other ≡ false → (variables : List Variable) → variable_in other (filter (λ (v : Variable). not (bytes_eq v.name name)) variables) ≡ variable_in other variables
others_left name other apart [] = refl
others_left name other apart (v ∷ vs) = by (bytes_eq v.name name) refl (others_left name other apart vs)
  where
    by : (b : Bool) → bytes_eq v.name name ≡ b → variable_in other (filter (λ (v : Variable). not (bytes_eq v.name name)) vs) ≡ variable_in other vs → variable_in other (filter (λ (v : Variable). not (bytes_eq v.name name)) (v ∷ vs)) ≡ variable_in other (v ∷ vs)
    by true same rest =
        let far : bytes_eq v.name other ≡ false = ap (λ (l : List ℕ). bytes_eq l other) ((bytes_eq-Decides v.name name).0 same) ∙ apart in
        rw (same, far) rest
    by false same rest = rw same (ap (λ (o : Option Array). if bytes_eq v.name other then Some v.array else o) rest)

pub variable_is_set : (name : List ℕ) (array : Array) (variables : List Variable) (other : List ℕ) → variable_in other (variable_set name array variables) ≡ cond (bytes_eq name other) (Some array) (variable_in other variables)
variable_is_set name array variables other = by (bytes_eq name other) refl
  where
    by : (b : Bool) → bytes_eq name other ≡ b → (if b then Some array else variable_in other (filter (λ (v : Variable). not (bytes_eq v.name name)) variables)) ≡ cond b (Some array) (variable_in other variables)
    by true same = refl
    by false apart = others_left name other apart variables

-- one session's variables, once one of them was set
pub set_as : (old new : Variables) (name : List ℕ) (array : Array) (variables : List Variable) → array_at new name ≡ Some array → ((other : List ℕ) → other ≢ name → array_at new other ≡ array_at old other) → IsAs old variables → IsAs new (variable_set name array variables)
set_as old new name array variables own others is = record { named = λ other. by other (bytes_eq name other) refl ∙ sym (variable_is_set name array variables other) }
  where
    by : (other : List ℕ) (b : Bool) → bytes_eq name other ≡ b → array_at new other ≡ cond (bytes_eq name other) (Some array) (variable_in other variables)
    by other true same = let here : name ≡ other = (bytes_eq-Decides name other).0 same in rw same (subst (λ (l : List ℕ). array_at new l ≡ Some array) here own)
    by other false apart = rw apart (others other (λ same. true≢false (sym (subst (λ (l : List ℕ). bytes_eq name l ≡ true) (sym same) (same_name name)) ∙ apart)) ∙ is.named other)

-- why an element was not set
pub denied_element : (a : Array) (sub : ℤ) (denied : Denied) → IsSetDenial (excess a sub) denied → IsElementDenial (Some a) sub denied
denied_element a sub NoMemory is = tt
denied_element a sub (By r) is = by (excess a sub) is
  where
    by : (o : Option ℕ) → IsSetDenial o (By r) → too_big_by o ≡ Some r
    by None is' = absurd is'
    by (Some n) is' = ap Some (sym is')

-- in the server: the array under a name has other elements

abbrev pub hits : (name : List ℕ) → Key → Bool
hits name = is_at (at_name name)

-- a key that one name finds, and another does not
apart_hits : (name other : List ℕ) (key : Key) → bytes_eq name other ≡ false → hits name key ≡ true → hits other key ≡ false
apart_hits name other key apart hit =
    let here : key.items ≡ name = (bytes_eq-Decides key.items name).0 (sym (same_order name key.items) ∙ hit) in
    same_order other key.items ∙ (ap (λ (l : List ℕ). bytes_eq l other) here ∙ apart)

written_other : (name other : List ℕ) → bytes_eq name other ≡ false → (w : Array) (es : List (Key × Array)) → lookup (hits other) (set_value (hits name) es w) ≡ lookup (hits other) es
written_other name other apart w [] = refl
written_other name other apart w (e ∷ es) = by (hits name e.0) refl (written_other name other apart w es)
  where
    by : (b : Bool) → hits name e.0 ≡ b → lookup (hits other) (set_value (hits name) es w) ≡ lookup (hits other) es → lookup (hits other) (cond b ((e.0, w) ∷ es) (e ∷ set_value (hits name) es w)) ≡ lookup (hits other) (e ∷ es)
    by true hit rest = rw (apart_hits name other e.0 apart hit) refl
    by false hit rest = ap (λ (o : Option Array). cond (hits other e.0) (Some e.1) o) rest

written_here : (name : List ℕ) (v w : Array) (es : List (Key × Array)) → Some v ≡ lookup (hits name) es → lookup (hits name) (set_value (hits name) es w) ≡ Some w
written_here name v w [] found = absurd (false≢true (sym (ap is_some found)))
written_here name v w (e ∷ es) found = by (hits name e.0) refl found (written_here name v w es)
  where
    by : (b : Bool) → hits name e.0 ≡ b → Some v ≡ cond b (Some e.1) (lookup (hits name) es) → (Some v ≡ lookup (hits name) es → lookup (hits name) (set_value (hits name) es w) ≡ Some w) → lookup (hits name) (cond b ((e.0, w) ∷ es) (e ∷ set_value (hits name) es w)) ≡ Some w
    by true hit found rest = rw hit refl
    by false hit found rest = rw hit (rest found)

-- what the array under the name was set to, from what the map was and is
pub element_set : (old new : Variables) (name : List ℕ) (sub : ℤ) (value : Option ℤ) (v w : Array) → Some v ≡ array_at old name → new.arrays.entries ≡ set_value (hits name) old.arrays.entries w → excess v sub ≡ None → w ≡ array_set v sub value → SetsElement old new name sub value
element_set old new name sub value v w found written fits is = record {
  there = ap is_some (sym found);
  fits = subst (λ (o : Option Array). excess (array_or_empty o) sub ≡ None) found fits;
  own = subst (λ (o : Option Array). array_at new name ≡ Some (array_set (array_or_empty o) sub value)) found (ap (lookup (hits name)) written ∙ (written_here name v w old.arrays.entries found ∙ ap Some is));
  others = λ other apart. ap (lookup (hits other)) written ∙ written_other name other (other_name name other apart) w old.arrays.entries;
}

-- and where it was not
pub element_denied : (old new : Variables) (name : List ℕ) (sub : ℤ) (denied : Denied) (v w : Array) → Some v ≡ array_at old name → new.arrays.entries ≡ set_value (hits name) old.arrays.entries w → w ≡ v → IsSetDenial (excess v sub) denied → DeniesElement old new name sub denied
element_denied old new name sub denied v w found written is why = record {
  why = subst (λ (o : Option Array). IsElementDenial o sub denied) found (denied_element v sub denied why);
  same = λ other. ap (lookup (hits other)) (written ∙ set_value_same (hits name) old.arrays.entries w (sym found ∙ ap Some (sym is)));
}

-- both by how the change ended
pub element_set_ok : (old new : Variables) (name : List ℕ) (sub : ℤ) (value : Option ℤ) (v w : Array) {T : Type 0} (result : Result T Denied) → Some v ≡ array_at old name → new.arrays.entries ≡ set_value (hits name) old.arrays.entries w → OnOk result (excess v sub ≡ None) → OnOk result (w ≡ array_set v sub value) → OnOk result (SetsElement old new name sub value)
element_set_ok old new name sub value v w (Ok x) found written fits is = element_set old new name sub value v w found written fits is
element_set_ok old new name sub value v w (Err e) found written fits is = tt

pub element_denied_err : (old new : Variables) (name : List ℕ) (sub : ℤ) (v w : Array) {T : Type 0} (result : Result T Denied) → Some v ≡ array_at old name → new.arrays.entries ≡ set_value (hits name) old.arrays.entries w → OnErr result (w ≡ v) → IfErr result (IsSetDenial (excess v sub)) → IfErr result (DeniesElement old new name sub)
element_denied_err old new name sub v w (Ok x) found written is why = tt
element_denied_err old new name sub v w (Err e) found written is why = element_denied old new name sub e v w found written is why

-- what holds anyway holds where there is an error
pub on_any_err : {T E P : Type 0} (result : Result T E) → P → OnErr result P
on_any_err (Ok x) holds = tt
on_any_err (Err e) holds = holds

pub same_arrays : (old new : BTreeMap Key Array) → new.entries ≡ old.entries → (other : List ℕ) → get_by (at_name other) new ≡ get_by (at_name other) old
same_arrays old new same other = ap (lookup (is_at (at_name other))) same

pub put_own : (old new : BTreeMap Key Array) (key : Key) (array : Array) (name : List ℕ) → key.items ≡ name → new.entries ≡ insert_entry by_bytes old.entries key array → get_by (at_name name) new ≡ Some array
put_own old new key array name named put = array_put old new key array name named put name ∙ ap (λ (b : Bool). cond b (Some array) (get_by (at_name name) old)) (same_name name)

pub put_others : (old new : BTreeMap Key Array) (key : Key) (array : Array) (name : List ℕ) → key.items ≡ name → new.entries ≡ insert_entry by_bytes old.entries key array → (other : List ℕ) → other ≢ name → get_by (at_name other) new ≡ get_by (at_name other) old
put_others old new key array name named put other apart = array_put old new key array name named put other ∙ ap (λ (b : Bool). cond b (Some array) (get_by (at_name other) old)) (other_name name other apart)

-- the name was asked for by its bytes

pub set_asked : (old new : Variables) (asked name : List ℕ) (sub : ℤ) (value : Option ℤ) (v w : Array) {T : Type 0} (result : Result T Denied) → asked ≡ name → Some v ≡ array_at old asked → new.arrays.entries ≡ set_value (hits asked) old.arrays.entries w → OnOk result (excess v sub ≡ None) → OnOk result (w ≡ array_set v sub value) → OnOk result (SetsElement old new name sub value)
set_asked old new asked name sub value v w result same found written fits is = subst (λ (l : List ℕ). OnOk result (SetsElement old new l sub value)) same (element_set_ok old new asked sub value v w result found written fits is)

pub denied_asked : (old new : Variables) (asked name : List ℕ) (sub : ℤ) (v w : Array) {T : Type 0} (result : Result T Denied) → asked ≡ name → Some v ≡ array_at old asked → new.arrays.entries ≡ set_value (hits asked) old.arrays.entries w → OnErr result (w ≡ v) → IfErr result (IsSetDenial (excess v sub)) → IfErr result (DeniesElement old new name sub)
denied_asked old new asked name sub v w result same found written is why = subst (λ (l : List ℕ). IfErr result (DeniesElement old new l sub)) same (element_denied_err old new asked sub v w result found written is why)
