-- Rows that are not replaced keep their plans where edits change owners, where open ones go, where some are made, and where a
-- table is stored anew. A row of a view that has all commits has a plan.
use Rattle.std.proofs.Common.{◌≡◌, ◌≤◌, ℕ, ℤ, Bool, true, false, cond, not, List, [], ◌∷◌, ◌++◌, map, Option, Some, None, refl, ap, sym, subst, ◌∙◌}
use Rattle.std.specs.Prelude.{All, ◌&&◌, ◌||◌, bytes_eq, filter, is_some, if◌then◌else◌}
use Rattle.std.specs.Ordering.{int_eq}
use Rattle.std.proofs.lemmas.Bool.{false≢true}
use Rattle.std.proofs.lemmas.Bool.Decides.{Decides-int_eq}
use Rattle.std.proofs.lemmas.List.Elements.{All-head, All-tail}
use Rattle.std.proofs.lemmas.Slice.Eq.{bytes_eq-Decides}
use Rattle.lo_base.specs.declared.column.Column.{Column}
use Rattle.lo_base.specs.declared.value.Value.{Value}
use Rattle.lo_model.specs.declared.owner.Owner.{Owner}
use Rattle.lo_model.specs.Database.{Table}
use Rattle.lo_model.specs.Edit.{Deed, Create, Write, Cut, Unlink, Put, Delete, Edit, deeds}
use Rattle.lo_model.specs.Levels.{owned_by}
use Rattle.lo_model.specs.Numbering.{is_running}
use Rattle.lo_model.specs.Row.{Row, is_row, row_after, row_after_all, row_in}
use Rattle.lo_model.specs.Touch.{RowOf, RowsOf, Touched, meets, touched}
use Rattle.row_tables.specs.Terms.{rounded_length, row_limit}
use Rattle.toast_plan.specs.Row.{value_lengths}
use Rattle.lo_machine.specs.Fitting.{HasPlan, HavePlans, columns_among, is_replaced, replaces}

-- tests

or_parts : (a b : Bool) → (a || b) ≡ false → (a ≡ false) × (b ≡ false)
or_parts true b is = absurd (false≢true (sym is))
or_parts false b is = (refl, is)

or_both : (a b : Bool) → a ≡ false → b ≡ false → (a || b) ≡ false
or_both a b first second = rw (first, second) refl

pub both_parts : (a b : Bool) → (a && b) ≡ true → (a ≡ true) × (b ≡ true)
both_parts true true is = (refl, refl)
both_parts true false is = absurd (false≢true is)
both_parts false b is = absurd (false≢true is)

second_false : (a b : Bool) → b ≡ false → (a && b) ≡ false
second_false true b is = is
second_false false b is = refl

-- what replaces nothing

none_front : (old : Touched) (xs ys : List (Edit Deed)) → is_replaced old (xs ++ ys) ≡ false → is_replaced old xs ≡ false
none_front old [] ys none = refl
none_front old (x ∷ xs) ys none =
    let parts = or_parts (replaces old x) (is_replaced old (xs ++ ys)) none in
    or_both (replaces old x) (is_replaced old xs) parts.0 (none_front old xs ys parts.1)

none_behind : (old : Touched) (xs ys : List (Edit Deed)) → is_replaced old (xs ++ ys) ≡ false → is_replaced old ys ≡ false
none_behind old [] ys none = none
none_behind old (x ∷ xs) ys none = none_behind old xs ys (or_parts (replaces old x) (is_replaced old (xs ++ ys)) none).1

-- Owners: a change of owners that leaves commits

abbrev pub LeavesCommits : (Owner → Owner) → Type 0
LeavesCommits change = (o : Owner) → is_running o ≡ false → is_running (change o) ≡ false

module _ (change : Owner → Owner) (leaves : LeavesCommits change) where
  one_owned : (old : Touched) (e : Edit Deed) → replaces old (owned_by change e) ≡ false → replaces old e ≡ false
  one_owned old e none = by (is_running e.owner) refl
    where
      by : (b : Bool) → is_running e.owner ≡ b → (not b && meets old (touched e.deed)) ≡ false
      by true is = refl
      by false is = subst (λ (b : Bool). (not b && meets old (touched e.deed)) ≡ false) (leaves e.owner is) none

  none_owned : (old : Touched) (es : List (Edit Deed)) → is_replaced old (map (owned_by change) es) ≡ false → is_replaced old es ≡ false
  none_owned old [] none = refl
  none_owned old (e ∷ es) none =
      let parts = or_parts (replaces old (owned_by change e)) (is_replaced old (map (owned_by change) es)) none in
      or_both (replaces old e) (is_replaced old es) (one_owned old e parts.0) (none_owned old es parts.1)

  pub plans_owned : (tables : List Table) (es : List (Edit Deed)) → HavePlans tables es → HavePlans tables (map (owned_by change) es)
  plans_owned tables [] all = tt
  plans_owned tables (e ∷ es) all = ((λ none. all.0 (none_owned (touched e.deed) es none)), plans_owned tables es all.1)

-- Edits that go, all of them open

module _ (stays : Edit Deed → Bool) (opens : (e : Edit Deed) → stays e ≡ false → is_running e.owner ≡ true) where
  none_left : (old : Touched) (es : List (Edit Deed)) → is_replaced old (filter stays es) ≡ false → is_replaced old es ≡ false
  none_left old [] none = refl
  none_left old (e ∷ es) none = by (stays e) refl none (none_left old es)
    where
      by : (b : Bool) → stays e ≡ b → is_replaced old (cond b (e ∷ filter stays es) (filter stays es)) ≡ false → (is_replaced old (filter stays es) ≡ false → is_replaced old es ≡ false) → is_replaced old (e ∷ es) ≡ false
      by true is here rest =
          let parts = or_parts (replaces old e) (is_replaced old (filter stays es)) here in
          or_both (replaces old e) (is_replaced old es) parts.0 (rest parts.1)
      by false is here rest = or_both (replaces old e) (is_replaced old es) (ap (λ (b : Bool). not b && meets old (touched e.deed)) (opens e is)) (rest here)

  pub plans_left : (tables : List Table) (es : List (Edit Deed)) → HavePlans tables es → HavePlans tables (filter stays es)
  plans_left tables [] all = tt
  plans_left tables (e ∷ es) all = by (stays e) (plans_left tables es all.1)
    where
      by : (b : Bool) → HavePlans tables (filter stays es) → HavePlans tables (cond b (e ∷ filter stays es) (filter stays es))
      by true rest = ((λ none. all.0 (none_left (touched e.deed) es none)), rest)
      by false rest = rest

-- More edits

pub plans_more : (tables : List Table) (es more : List (Edit Deed)) → HavePlans tables es → HavePlans tables more → HavePlans tables (es ++ more)
plans_more tables [] more all made = made
plans_more tables (e ∷ es) more all made = ((λ none. all.0 (none_front (touched e.deed) es more none)), plans_more tables es more all.1 made)

-- Tables that have the columns that they had, where they were there

pub plan_with : (columns columns' : List Column) (row : List Value) → columns ≡ columns' → rounded_length columns (value_lengths row) ≤ row_limit → rounded_length columns' (value_lengths row) ≤ row_limit
plan_with columns columns' row same fits = subst (λ (cs : List Column). rounded_length cs (value_lengths row) ≤ row_limit) same fits

-- A row after edits that a view sees: what was put stays, unless a deed on its row comes.

row_apart : (t : List ℕ) (i : ℤ) (old : Option Row) (d : Deed) → meets (RowOf t i) (touched d) ≡ false → row_after t i old d ≡ old
row_apart t i old (Create o) is = refl
row_apart t i old (Write o at bytes) is = refl
row_apart t i old (Cut o size) is = refl
row_apart t i old (Unlink o) is = refl
row_apart t i old (Put u j values stored) is = ap (λ (b : Bool). cond b (Some (record { values = values; stored = stored })) old) is
row_apart t i old (Delete u j) is = ap (λ (b : Bool). cond b None old) is

-- the row that a view's edits leave of one that there is
abbrev pub row_left : (Edit Deed → Bool) → (table : List ℕ) → (id : ℤ) → Option Row → List (Edit Deed) → Option Row
row_left sees t i old es = row_after_all t i old (deeds (filter sees es))

abbrev pub row_next : (Edit Deed → Bool) → (table : List ℕ) → (id : ℤ) → Option Row → Edit Deed → Option Row
row_next sees t i old e = if sees e then row_after t i old e.deed else old

pub row_step : (sees : Edit Deed → Bool) (t : List ℕ) (i : ℤ) (old : Option Row) (e : Edit Deed) (es : List (Edit Deed)) → row_left sees t i old (e ∷ es) ≡ row_left sees t i (row_next sees t i old e) es
row_step sees t i old e es = by (sees e)
  where
    by : (b : Bool) → row_after_all t i old (deeds (cond b (e ∷ filter sees es) (filter sees es))) ≡ row_left sees t i (if b then row_after t i old e.deed else old) es
    by true = refl
    by false = refl

module _ (sees : Edit Deed → Bool) where
  -- a view that has all commits
  abbrev pub SeesCommits : List (Edit Deed) → Type 0
  SeesCommits es = All (λ (e : Edit Deed). is_running e.owner ≡ false → sees e ≡ true) es

  module _ (tables : List Table) (t : List ℕ) (i : ℤ) where
    abbrev pub HasPlanIfThere : Option Row → Type 0
    HasPlanIfThere None = Unit {0}
    HasPlanIfThere (Some row) = rounded_length (columns_among tables t) (value_lengths row.values) ≤ row_limit

    -- a put of the row
    put_plan : (u : List ℕ) (j : ℤ) (values : List Value) → is_row t i u j ≡ true → (later : List (Edit Deed)) → (is_replaced (RowOf u j) later ≡ false → rounded_length (columns_among tables u) (value_lengths values) ≤ row_limit) → is_replaced (RowOf t i) later ≡ false → rounded_length (columns_among tables t) (value_lengths values) ≤ row_limit
    put_plan u j values same later put none =
        let parts = both_parts (bytes_eq t u) (int_eq i j) same in
        let name : t ≡ u = (bytes_eq-Decides t u).0 parts.0 in
        let id : i ≡ j = (Decides-int_eq i j).0 parts.1 in
        subst (λ (v : List ℕ). rounded_length (columns_among tables v) (value_lengths values) ≤ row_limit) (sym name)
        (put (subst (λ (k : ℤ). is_replaced (RowOf u k) later ≡ false) id (subst (λ (v : List ℕ). is_replaced (RowOf v i) later ≡ false) name none)))

    -- one deed, which is replaced or has its plan
    after_plan : (old : Option Row) (e : Edit Deed) (later : List (Edit Deed)) → (is_replaced (touched e.deed) later ≡ false → HasPlan tables e.deed) → (meets (RowOf t i) (touched e.deed) ≡ false → HasPlanIfThere old) → is_replaced (RowOf t i) later ≡ false → HasPlanIfThere (row_after t i old e.deed)
    after_plan old e later own before none = by e.deed own before
      where
        by : (d : Deed) → (is_replaced (touched d) later ≡ false → HasPlan tables d) → (meets (RowOf t i) (touched d) ≡ false → HasPlanIfThere old) → HasPlanIfThere (row_after t i old d)
        by (Create o) has was = was refl
        by (Write o at []) has was = was refl
        by (Write o at (b ∷ bytes)) has was = was refl
        by (Cut o size) has was = was refl
        by (Unlink o) has was = was refl
        by (Put u j values stored) has was = put (is_row t i u j) refl
          where
            put : (b : Bool) → is_row t i u j ≡ b → HasPlanIfThere (if b then Some (record { values = values; stored = stored }) else old)
            put true same = put_plan u j values same later has none
            put false other = was other
        by (Delete u j) has was = gone (is_row t i u j) refl
          where
            gone : (b : Bool) → is_row t i u j ≡ b → HasPlanIfThere (if b then None else old)
            gone true same = tt
            gone false other = was other

    next_plan : (old : Option Row) (e : Edit Deed) (later : List (Edit Deed)) → (is_running e.owner ≡ false → sees e ≡ true) → (is_replaced (touched e.deed) later ≡ false → HasPlan tables e.deed) → (is_replaced (RowOf t i) (e ∷ later) ≡ false → HasPlanIfThere old) → is_replaced (RowOf t i) later ≡ false → HasPlanIfThere (row_next sees t i old e)
    next_plan old e later commits own before none = by (sees e) refl
      where
        unseen : sees e ≡ false → replaces (RowOf t i) e ≡ false
        unseen not_seen = running (is_running e.owner) refl
          where
            running : (b : Bool) → is_running e.owner ≡ b → (not b && meets (RowOf t i) (touched e.deed)) ≡ false
            running true is = refl
            running false is = absurd (false≢true (sym not_seen ∙ commits is))

        by : (b : Bool) → sees e ≡ b → HasPlanIfThere (if b then row_after t i old e.deed else old)
        by true seen = after_plan old e later own (λ apart. before (or_both (replaces (RowOf t i) e) (is_replaced (RowOf t i) later) (second_false (not (is_running e.owner)) (meets (RowOf t i) (touched e.deed)) apart) none)) none
        by false not_seen = before (or_both (replaces (RowOf t i) e) (is_replaced (RowOf t i) later) (unseen not_seen) none)

    all_plans : (old : Option Row) (es : List (Edit Deed)) → SeesCommits es → HavePlans tables es → (is_replaced (RowOf t i) es ≡ false → HasPlanIfThere old) → HasPlanIfThere (row_left sees t i old es)
    all_plans old [] commits all before = before refl
    all_plans old (e ∷ es) commits all before =
        subst HasPlanIfThere (sym (row_step sees t i old e es))
        (all_plans (row_next sees t i old e) es (All-tail (λ (f : Edit Deed). is_running f.owner ≡ false → sees f ≡ true) e es commits) all.1
        (next_plan old e es (All-head (λ (f : Edit Deed). is_running f.owner ≡ false → sees f ≡ true) e es commits) all.0 before))

    pub row_plan : (es : List (Edit Deed)) → SeesCommits es → HavePlans tables es → HasPlanIfThere (row_in t i (filter sees es))
    row_plan es commits all = all_plans None es commits all (λ none. tt)

-- A table stored anew: each row that the view has is put, and all edits of its rows are committed and seen.

module _ (sees : Edit Deed → Bool) (t : List ℕ) where
  -- of an edit of the table's rows
  pub record IsSettled (e : Edit Deed) : Type 0 where
    pub committed : meets (RowsOf t) (touched e.deed) ≡ true → is_running e.owner ≡ false
    pub seen : meets (RowsOf t) (touched e.deed) ≡ true → sees e ≡ true

  row_of_table : (i : ℤ) (d : Deed) → meets (RowOf t i) (touched d) ≡ true → meets (RowsOf t) (touched d) ≡ true
  row_of_table i (Create o) is = absurd (false≢true is)
  row_of_table i (Write o at []) is = absurd (false≢true is)
  row_of_table i (Write o at (b ∷ bytes)) is = absurd (false≢true is)
  row_of_table i (Cut o size) is = absurd (false≢true is)
  row_of_table i (Unlink o) is = absurd (false≢true is)
  row_of_table i (Put u j values stored) is = (both_parts (bytes_eq t u) (int_eq i j) is).0
  row_of_table i (Delete u j) is = (both_parts (bytes_eq t u) (int_eq i j) is).0

  -- what no edit replaces stays
  one_stays : (i : ℤ) (old : Option Row) (e : Edit Deed) → IsSettled e → replaces (RowOf t i) e ≡ false → row_next sees t i old e ≡ old
  one_stays i old e settled none = by (sees e)
    where
      apart : meets (RowOf t i) (touched e.deed) ≡ false
      apart = meeting (meets (RowOf t i) (touched e.deed)) refl
        where
          meeting : (b : Bool) → meets (RowOf t i) (touched e.deed) ≡ b → b ≡ false
          meeting false is = refl
          meeting true is =
              let of_table : meets (RowsOf t) (touched e.deed) ≡ true = row_of_table i e.deed is in
              absurd (false≢true (sym none ∙ (ap (λ (b : Bool). not b && meets (RowOf t i) (touched e.deed)) (settled.committed of_table) ∙ is)))

      by : (b : Bool) → (if b then row_after t i old e.deed else old) ≡ old
      by true = row_apart t i old e.deed apart
      by false = refl

  row_stays : (i : ℤ) (old : Option Row) (es : List (Edit Deed)) → All IsSettled es → is_replaced (RowOf t i) es ≡ false → row_left sees t i old es ≡ old
  row_stays i old [] settled none = refl
  row_stays i old (e ∷ es) settled none =
      let parts = or_parts (replaces (RowOf t i) e) (is_replaced (RowOf t i) es) none in
      row_step sees t i old e es
      ∙ ap (λ (was : Option Row). row_left sees t i was es) (one_stays i old e (All-head IsSettled e es settled) parts.0)
      ∙ row_stays i old es (All-tail IsSettled e es settled) parts.1

  put_after : (u : List ℕ) (i : ℤ) (values : List Value) (stored : List (Option ℕ)) (old : Option Row) → bytes_eq t u ≡ true → row_after t i old (Put u i values stored) ≡ Some (record { values = values; stored = stored })
  put_after u i values stored old same =
      let id : int_eq i i ≡ true = (Decides-int_eq i i).1 refl in
      rw (same, id) refl

  module _ (old_tables new : List Table) (others : (u : List ℕ) → bytes_eq t u ≡ false → columns_among old_tables u ≡ columns_among new u) (made : List (Edit Deed)) where
    -- The puts made replace each row that is there.
    abbrev pub ReplaceRows : (ℤ → Option Row) → Type 0
    ReplaceRows row = (i : ℤ) → is_some (row i) ≡ true → is_replaced (RowOf t i) made ≡ true

    anew_one : (e : Edit Deed) (later : List (Edit Deed)) (old : ℤ → Option Row) → IsSettled e → All IsSettled later → ReplaceRows (λ i. row_left sees t i (row_next sees t i (old i) e) later) → (is_replaced (touched e.deed) later ≡ false → HasPlan old_tables e.deed) → is_replaced (touched e.deed) (later ++ made) ≡ false → HasPlan new e.deed
    anew_one e later old settled all rows own none = by e.deed refl own none
      where
        by : (d : Deed) → e.deed ≡ d → (is_replaced (touched d) later ≡ false → HasPlan old_tables d) → is_replaced (touched d) (later ++ made) ≡ false → HasPlan new d
        by (Create o) is has free = tt
        by (Write o at bytes) is has free = tt
        by (Cut o size) is has free = tt
        by (Unlink o) is has free = tt
        by (Delete u j) is has free = tt
        by (Put u j values stored) is has free = named (bytes_eq t u) refl
          where
            named : (b : Bool) → bytes_eq t u ≡ b → rounded_length (columns_among new u) (value_lengths values) ≤ row_limit
            named false other = plan_with (columns_among old_tables u) (columns_among new u) values (others u other) (has (none_front (RowOf u j) later made free))
            named true same = absurd (false≢true (sym replaced_not ∙ replaced))
              where
                name : t ≡ u
                name = (bytes_eq-Decides t u).0 same

                here : is_replaced (RowOf t j) (later ++ made) ≡ false
                here = subst (λ (v : List ℕ). is_replaced (RowOf v j) (later ++ made) ≡ false) (sym name) free

                seen : sees e ≡ true
                seen = settled.seen (ap (λ (d : Deed). meets (RowsOf t) (touched d)) is ∙ same)

                next : row_next sees t j (old j) e ≡ Some (record { values = values; stored = stored })
                next = ap (λ (b : Bool). if b then row_after t j (old j) e.deed else old j) seen ∙ ap (row_after t j (old j)) is ∙ put_after u j values stored (old j) same

                left : row_left sees t j (row_next sees t j (old j) e) later ≡ Some (record { values = values; stored = stored })
                left = ap (λ (was : Option Row). row_left sees t j was later) next ∙ row_stays j (Some (record { values = values; stored = stored })) later all (none_front (RowOf t j) later made here)

                replaced : is_replaced (RowOf t j) made ≡ true
                replaced = rows j (ap is_some left)

                replaced_not : is_replaced (RowOf t j) made ≡ false
                replaced_not = none_behind (RowOf t j) later made here

    plans_anew_from : (es : List (Edit Deed)) (old : ℤ → Option Row) → All IsSettled es → ReplaceRows (λ i. row_left sees t i (old i) es) → HavePlans old_tables es → HavePlans new made → HavePlans new (es ++ made)
    plans_anew_from [] old settled rows all own = own
    plans_anew_from (e ∷ es) old settled rows all own =
        let head : IsSettled e = All-head IsSettled e es settled in
        let tail : All IsSettled es = All-tail IsSettled e es settled in
        let next : ReplaceRows (λ i. row_left sees t i (row_next sees t i (old i) e) es) = λ i there. rows i (ap is_some (row_step sees t i (old i) e es) ∙ there) in
        (anew_one e es old head tail next all.0, plans_anew_from es (λ i. row_next sees t i (old i) e) tail next all.1 own)

    pub plans_anew : (es : List (Edit Deed)) → All IsSettled es → ReplaceRows (λ i. row_in t i (filter sees es)) → HavePlans old_tables es → HavePlans new made → HavePlans new (es ++ made)
    plans_anew es settled rows all own = plans_anew_from es (λ i. None) settled rows all own
