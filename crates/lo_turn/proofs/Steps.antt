-- Each step keeps the rule of the turn.
use Rattle.std.proofs.Common.{◌≡◌, ◌≢◌, ℕ, zero, suc, ◌<◌, ◌≤◌, Bool, true, false, true≢false, List, [], ◌∷◌, ◌++◌, length, length-append, set, Option, Some, None, refl, sym, ap, ◌∙◌, subst, arith, inl, inr, ⊎_elim}
use Rattle.std.specs.Prelude.{slice_index, if◌then◌else◌, IsSome}
use mathlib.Core.Option.{some, some-injective, some-ne-none}
use lib.ListN.{get_elem?}
use Rattle.std.proofs.lemmas.Bool.{cases_eq}
use Rattle.atomic_table.specs.Table.{State, keeps, takes, gives, Allows, Splits, Joins, opening, Final, Seen, rest}
use Rattle.atomic_table.proofs.Lists.{at_set, at_snoc, set_here, set_again}
use Rattle.lo_machine.specs.Replay.{Play}
use Rattle.lo_turn.specs.declared.hand.Hand.{Hand}
use Rattle.lo_turn.specs.Turns.{BeganAs, total, numbers, hand, turn_of, owned_by, owns, spent, owner_of_all, after_cut, cut_off, joined, IsSound, Turns, waiting, holding, owner, Tried, Gave, HasRun, Sat, Owns}
use Rattle.lo_turn.proofs.Runs.{began_self}
use Rattle.lo_turn.proofs.Sums.{total_append, total_set, two_within, counted, times_append, numbers_once}

no : {X : Type 0} → true ≡ false → X
no e = absurd (true≢false e)

no' : {X : Type 0} → false ≡ true → X
no' e = absurd (true≢false (sym e))

idle_sound : (given : Play) (xs : List ℕ) → IsSound given (hand xs false false given)
idle_sound given xs = record { turn = λ e. no' e; spent = λ e. no' e; names = λ e. refl }

turn_sound : (given : Play) (session : ℕ) → IsSound given (hand (session ∷ []) true false given)
turn_sound given session = record { turn = λ e. (refl, omega arith); spent = λ e. no' e; names = λ e. refl }

spent_sound : (given : Play) → IsSound given spent
spent_sound given = record { turn = λ e. no' e; spent = λ e. refl; names = λ e. no e }

sound_set : (given : Play) (views : List Hand) (id : ℕ) (w : Hand) → ((place : ℕ) (v : Hand) → get_elem? views place ≡ some v → IsSound given v) → IsSound given w → (place : ℕ) (v : Hand) → get_elem? (set views id w) place ≡ some v → IsSound given v
sound_set given views id w sound mine place v e = ⊎_elim
    (λ (t : (place ≡ id) × (w ≡ v)). subst (IsSound given) t.1 mine)
    (λ (t : (place ≢ id) × (get_elem? views place ≡ some v)). sound place v t.1)
    (at_set views id place w v e)

sound_snoc : (given : Play) (views : List Hand) (w : Hand) → ((place : ℕ) (v : Hand) → get_elem? views place ≡ some v → IsSound given v) → IsSound given w → (place : ℕ) (v : Hand) → get_elem? (views ++ w ∷ []) place ≡ some v → IsSound given v
sound_snoc given views w sound mine place v e = ⊎_elim
    (λ (was : get_elem? views place ≡ some v). sound place v was)
    (λ (same : w ≡ v). subst (IsSound given) same mine)
    (at_snoc views w v place e)

-- the word found
found_is : (given : Play) (s : State (Option Play) Hand) → Turns given s → slice_index s.words 0 ≡ total turn_of s.views
found_is given s k = ap (λ (ws : List ℕ). slice_index ws 0) k.word

word_after : (given : Play) (s : State (Option Play) Hand) → Turns given s → (n : ℕ) → set s.words 0 n ≡ n ∷ []
word_after given s k n = ap (λ (ws : List ℕ). set ws 0 n) k.word

-- take or miss
pub tries : (given : Play) (slots id session : ℕ) → Allows (Turns given) slots id (waiting given session) 0 (λ _. 1) (Tried (waiting given session))
tries given slots id session s k long at wide =
    let v = hand (session ∷ []) false false given in
    let w = hand (session ∷ []) true false given in
    elim (cases_eq (total turn_of s.views) 0) [
      | inl free ↦
          let here = k.home free in
          let turn = total_set turn_of s.views id v w at in (
            w,
            takes 0 (Some here.value),
            here.there,
            record {
              owned = λ n low high. (let t = total_set (owns n) s.views id v w at in let was = k.owned n low high in omega arith);
              count = (let t = total_set owned_by s.views id v w at in let was = k.count in omega arith);
              sound = sound_set given s.views id w k.sound (turn_sound given session);
              word = word_after given s k 1 ∙ ap (λ n. n ∷ []) (omega arith);
              one = omega arith;
              home = λ e. absurd (omega arith);
            },
            record { free = λ e. record { value = here.value; is = refl; began = here.began }; missed = λ ne. absurd (ne (found_is given s k ∙ free)) },
          )
      | inr taken ↦
          let one = k.one in
          let same = set_again s.views id v at in (
            v,
            keeps,
            tt,
            subst (Turns given)
                (λ (i : 𝕀). record { words = (k.word ∙ (ap (λ (n : ℕ). n ∷ []) (omega arith) ∙ sym (word_after given s k 1))) i; homes = s.homes; views = sym same i })
                k,
            record { free = λ e. absurd (taken (sym (found_is given s k) ∙ e)); missed = λ ne. refl },
          )
    ]

-- give
pub gives_back : (given : Play) (slots id session : ℕ) (value : Play) → 0 < slots → BeganAs given value → Allows (Turns given) slots id (holding given session (Some value)) 0 (λ _. 0) (λ _. Gave (holding given session (Some value)))
gives_back given slots id session value some_slot began s k long at wide =
    let v = hand (session ∷ []) true false given in
    let w = hand (session ∷ []) false false given in
    let turn = total_set turn_of s.views id v w at in
    let one = k.one in (
      w,
      gives,
      tt,
      record {
        owned = λ n low high. (let t = total_set (owns n) s.views id v w at in let was = k.owned n low high in omega arith);
        count = (let t = total_set owned_by s.views id v w at in let was = k.count in omega arith);
        sound = sound_set given s.views id w k.sound (idle_sound given (session ∷ []));
        word = word_after given s k 0 ∙ ap (λ n. n ∷ []) (omega arith);
        one = omega arith;
        home = λ e. record { value = value; there = set_here s.homes 0 (some (Some value)) (omega (arith, long, some_slot)); began = began };
      },
      refl,
    )

-- split
pub cuts : (given : Play) (id session : ℕ) (xs : List ℕ) → Splits (Turns given) id (hand (session ∷ xs) false false given) (hand xs false false given) (hand (session ∷ []) false false given)
cuts given id session xs s k at =
    let v = hand (session ∷ xs) false false given in
    let left = hand xs false false given in
    let right = hand (session ∷ []) false false given in
    let turn = total_set turn_of s.views id v left at in
    let turns = total_append turn_of (set s.views id left) (right ∷ []) in
    let one = k.one in
    record {
      owned = λ n low high. (let t = total_set (owns n) s.views id v left at in let a = total_append (owns n) (set s.views id left) (right ∷ []) in let was = k.owned n low high in omega arith);
      count = (let t = total_set owned_by s.views id v left at in let a = total_append owned_by (set s.views id left) (right ∷ []) in let was = k.count in omega arith);
      sound = sound_snoc given (set s.views id left) right (sound_set given s.views id left k.sound (idle_sound given xs)) (idle_sound given (session ∷ []));
      word = k.word ∙ ap (λ n. n ∷ []) (omega arith);
      one = omega arith;
      home = λ e. k.home (omega arith);
    }

-- join
pub joins : (given : Play) (id other : ℕ) (xs ys : List ℕ) → Joins (Turns given) id (hand xs false false given) other (hand ys false false given) (hand (xs ++ ys) false false given) spent
joins given id other xs ys s k at apart there =
    let v = hand xs false false given in
    let w = hand ys false false given in
    let both = hand (xs ++ ys) false false given in
    let views = set s.views id both in
    let turn = total_set turn_of s.views id v both at in
    let turns = total_set turn_of views other w spent there in
    let one = k.one in
    record {
      owned = λ n low high. (let t = total_set (owns n) s.views id v both at in let u = total_set (owns n) views other w spent there in let a = times_append n xs ys in let was = k.owned n low high in omega arith);
      count = (let t = total_set owned_by s.views id v both at in let u = total_set owned_by views other w spent there in let a = length-append xs ys in let was = k.count in omega arith);
      sound = sound_set given views other spent (sound_set given s.views id both k.sound (idle_sound given (xs ++ ys))) (spent_sound given);
      word = k.word ∙ ap (λ n. n ∷ []) (omega arith);
      one = omega arith;
      home = λ e. k.home (omega arith);
    }

-- the table at its start
pub starts : (given : Play) → Turns given (opening (0 ∷ []) (Some given ∷ []) (owner_of_all given))
starts given = record {
  owned = λ n low high. (let t = numbers_once n 1 16 low (omega (arith, high)) in omega arith);
  count = refl;
  sound = first;
  word = refl;
  one = omega arith;
  home = λ e. record { value = given; there = refl; began = began_self given };
}
  where
    first : (place : ℕ) (v : Hand) → get_elem? (owner_of_all given ∷ []) place ≡ some v → IsSound given v
    first zero v e = subst (IsSound given) (some-injective (owner_of_all given) v e) (idle_sound given (numbers 1 16))
    first (suc place) v e = absurd (some-ne-none v (sym e))

has_it : (b : Bool) → 0 < (if b then 1 else 0) → b ≡ true
has_it true h = refl
has_it false h = absurd (omega (arith, h))

-- the owner of all sessions knows that none has the turn
free_for_all : (given : Play) (id : ℕ) (xs : List ℕ) (s : State (Option Play) Hand) → 16 ≤ length xs → Turns given s → get_elem? s.views id ≡ some (hand xs false false given) → total turn_of s.views ≡ 0
free_for_all given id xs s all k at = elim (cases_eq (total turn_of s.views) 0) [
  | inl free ↦ free
  | inr taken ↦
      let who = counted turn_of s.views (omega (arith, taken)) in
      let sound = k.sound who.place who.value who.there in
      let some_session = (sound.turn (has_it who.value.has_turn who.positive)).1 in
      let apart : who.place ≢ id = λ same. absurd (zero_turn who.value (some-injective (hand xs false false given) who.value (sym at ∙ (ap (λ (j : ℕ). get_elem? s.views j) (sym same) ∙ who.there))) who.positive) in
      let sum = two_within owned_by s.views id who.place (hand xs false false given) who.value apart at who.there in
      let count = k.count in
      absurd (omega (arith, all, some_session))
]
  where
    zero_turn : (v : Hand) → hand xs false false given ≡ v → 0 < turn_of v → ⊥
    zero_turn v e h = absurd (subst (λ (u : Hand). 0 < turn_of u → ⊥) e (λ h'. absurd (omega (arith, h'))) h)

-- the table at its end
pub ends : (given : Play) (id : ℕ) (xs words : List ℕ) (slots : List (Option Play)) → 16 ≤ length xs → Final (Seen (Turns given) id (hand xs false false given)) words slots → HasRun given slots
ends given id xs words slots all final =
    let k = final.1.0 in
    let here = k.home (free_for_all given id xs final.0 all k final.1.1) in
    record { value = here.value; there = final.4 0 (Some here.value) here.there; began = here.began }

-- the steps, at a seat that is known
pub tries_as : (given : Play) (slots id session : ℕ) (me : Sat) → me ≡ waiting given session → Allows (Turns given) slots id me 0 (λ _. 1) (Tried me)
tries_as given slots id session me is = subst (λ (x : Sat). Allows (Turns given) slots id x 0 (λ _. 1) (Tried x)) (sym is) (tries given slots id session)

pub gives_as : (given : Play) (slots id session : ℕ) (value : Play) (me : Sat) → me ≡ holding given session (Some value) → 0 < slots → BeganAs given value → Allows (Turns given) slots id me 0 (λ _. 0) (λ _. Gave me)
gives_as given slots id session value me is some_slot began = subst (λ (x : Sat). Allows (Turns given) slots id x 0 (λ _. 0) (λ _. Gave x)) (sym is) (gives_back given slots id session value some_slot began)

pub cuts_as : (given : Play) (id session : ℕ) (xs : List ℕ) (me : Sat) → me ≡ owner given (session ∷ xs) → Splits (Turns given) id me.0 (after_cut me.0) (cut_off me.0)
cuts_as given id session xs me is = subst (λ (x : Sat). Splits (Turns given) id x.0 (after_cut x.0) (cut_off x.0)) (sym is) (cuts given id session xs)

pub joins_as : (given : Play) (id other : ℕ) (xs ys : List ℕ) (me them : Sat) → me ≡ owner given xs → them ≡ owner given ys → Joins (Turns given) id me.0 other them.0 (joined me.0 them.0) spent
joins_as given id other xs ys me them is are =
    subst (λ (x : Sat). Joins (Turns given) id x.0 other them.0 (joined x.0 them.0) spent) (sym is)
    (subst (λ (y : Sat). Joins (Turns given) id (hand xs false false given) other y.0 (joined (hand xs false false given) y.0) spent) (sym are) (joins given id other xs ys))

pub ends_as : (given : Play) (id : ℕ) (me : Sat) (words : List ℕ) (slots : List (Option Play)) → Owns given 0 me → Final (Seen (Turns given) id me.0) words slots → HasRun given slots
ends_as given id me words slots all final =
    let count = all.all in
    ends given id all.sessions words slots (omega arith) (subst (λ (x : Sat). Final (Seen (Turns given) id x.0) words slots) all.is final)

-- the seat once the run is put back
pub given_is : (given : Play) (session : ℕ) (run : Play) (me : Sat) → me ≡ holding given session None → (me.0, (0, Some run) ∷ rest me.1) ≡ holding given session (Some run)
given_is given session run me is = ap (λ (x : Sat). (x.0, (0, Some run) ∷ rest x.1)) is

pub first_held : (me : Sat) (v : Hand) (slot : Option Play) (more : List (ℕ × Option Play)) → me ≡ (v, (0, slot) ∷ more) → me.1 ≡ (0, slot) ∷ rest me.1
first_held me v slot more is = subst (λ (x : Sat). x.1 ≡ (0, slot) ∷ rest x.1) (sym is) refl

-- the run that is taken out of the table at its end
pub record Got (given : Play) (slot : Option Play) : Type 0 where
  pub value : Play
  pub is : slot ≡ Some value
  pub began : BeganAs given value

pub got : (given : Play) (slots : List (Option Play)) (slot : Option Play) → HasRun given slots → get_elem? slots 0 ≡ some slot → Got given slot
got given slots slot run there = record { value = run.value; is = some-injective slot (Some run.value) (sym there ∙ run.there); began = run.began }

pub got_some : (given : Play) (slot : Option Play) → Got given slot → IsSome slot
got_some given slot g = subst IsSome (sym g.is) refl

Some-injective : (x y : Play) → Some x ≡ Some y → x ≡ y
Some-injective x y e = cc

pub got_run : (given : Play) (slot : Option Play) (run : Play) → Got given slot → slot ≡ Some run → BeganAs given run
got_run given slot run g is = subst (BeganAs given) (Some-injective g.value run (sym g.is ∙ is)) g.began
