-- One of the sixteen sessions' entries is exchanged for another one: the views that all hold, and what each entry is.
use Rattle.std.proofs.Common.{◌≡◌, ◌≤◌, ◌<◌, ℕ, zero, suc, ◌+◌, ◌-◌, inl, inr, List, [], ◌∷◌, ◌++◌, length, Some, refl, ap, sym, subst, ◌∙◌, arith, take, drop, drop-cons, append_assoc, take-append-drop}
use Rattle.std.specs.Prelude.{All, IsPermutation, flat_map, remove, slice_get, slice_set}
use Rattle.std.proofs.lemmas.Bool.{cases_eq}
use Rattle.std.proofs.lemmas.Grind.{flat_map-append}
use Rattle.std.proofs.lemmas.List.{take-set, drop-set-lt, set-get_or}
use Rattle.std.proofs.lemmas.List.Sorted.{IsPermutation-sym, IsPermutation-trans, IsPermutation-append_comm, IsPermutation-append_left}
use Rattle.std.proofs.lemmas.Option.{same_Some, slice_get_within, get_or_from_slice_get}
use Rattle.xact_core.specs.declared.snapshot.Snapshot.{Snapshot}
use Rattle.xact_core.specs.Transactions.{Transactions}
use Rattle.xact_core.proofs.ListPlaces.{set_here, set_other}
use Rattle.lo_calls.specs.declared.descs.Descriptor.{Descriptor}
use Rattle.lo_calls.specs.declared.session.LoSession.{LoSession}
use Rattle.lo_calls.specs.Descriptors.{AreOpen, HoldsRest, IsOwnHold}
use Rattle.row_tables.specs.Cursors.{holds_of as cursor_holds}
use Rattle.row_tables.specs.Standing.{cursors_in}
use Rattle.lo_machine.specs.declared.server.Server.{Server}
use Rattle.lo_machine.specs.Server.{xacts_of, holds_at, all_holds, IsPlaced, IsServer}

-- the piece of one element, before those of all others

pub middle_first : {A : Type 0} (front middle back : List A) → IsPermutation (front ++ (middle ++ back)) (middle ++ (front ++ back))
middle_first front middle back = let moved = IsPermutation-append_left back (front ++ middle) (middle ++ front) (IsPermutation-append_comm front middle) in simp append_assoc at moved

parted : {X : Type 0} (xs : List X) (i : ℕ) (x : X) → slice_get xs i ≡ Some x → take i xs ++ x ∷ drop (suc i) xs ≡ xs
parted xs i x stood = ap (λ rest. take i xs ++ rest) (sym (drop-cons xs i x (slice_get_within xs i x stood) ∙ ap (λ y. y ∷ drop (suc i) xs) (get_or_from_slice_get xs i x x stood))) ∙ take-append-drop i xs

pub piece_first : {X A : Type 0} (f : X → List A) (xs : List X) (i : ℕ) (x : X) → slice_get xs i ≡ Some x → IsPermutation (flat_map f xs) (f x ++ flat_map f (remove xs i))
piece_first f xs i x stood =
    subst (λ all. IsPermutation (flat_map f all) (f x ++ flat_map f (remove xs i))) (parted xs i x stood)
    (rw (flat_map-append f (take i xs) (x ∷ drop (suc i) xs), flat_map-append f (take i xs) (drop (suc i) xs)) (middle_first (flat_map f (take i xs)) (f x) (flat_map f (drop (suc i) xs))))

others_same : {X : Type 0} (xs : List X) (i : ℕ) (y : X) → remove (slice_set xs i y) i ≡ remove xs i
others_same xs i y = rw (take-set xs i y, drop-set-lt (suc i) xs i y (omega arith)) refl

-- views that stay held beside those of one session, whose own may be others, and beside some more
pub holds_exchanged : (before after : List Snapshot) (sessions : List LoSession) (i : ℕ) (own own' : LoSession) (more : List Snapshot) → slice_get sessions i ≡ Some own → HoldsRest before after own.descs own'.descs → IsPermutation before (all_holds sessions ++ more) → IsPermutation after (all_holds (slice_set sessions i own') ++ more)
holds_exchanged before after sessions i own own' more stood rest all =
    let others = flat_map holds_at (remove sessions i) in
    let apart : (all_of own_of : List Snapshot) → IsPermutation all_of (own_of ++ others) → IsPermutation (all_of ++ more) (own_of ++ (others ++ more)) =
    λ all_of own_of same. subst (IsPermutation (all_of ++ more)) (append_assoc own_of others more) (IsPermutation-append_left more all_of (own_of ++ others) same) in
    let first = rest.rest (others ++ more) (IsPermutation-trans before (all_holds sessions ++ more) (holds_at own ++ (others ++ more)) all (apart (all_holds sessions) (holds_at own) (piece_first holds_at sessions i own stood))) in
    let there = set_here sessions i own' (slice_get_within sessions i own stood) in
    let again : IsPermutation (all_holds (slice_set sessions i own')) (holds_at own' ++ others) =
    subst (λ left. IsPermutation (all_holds (slice_set sessions i own')) (holds_at own' ++ flat_map holds_at left)) (others_same sessions i own') (piece_first holds_at (slice_set sessions i own') i own' there) in
    let back = apart (all_holds (slice_set sessions i own')) (holds_at own') again in
    IsPermutation-trans after (holds_at own' ++ (others ++ more)) (all_holds (slice_set sessions i own') ++ more) first (IsPermutation-sym (all_holds (slice_set sessions i own') ++ more) (holds_at own' ++ (others ++ more)) back)

-- what stands at a place then
pub placed_exchanged : (sessions : List LoSession) (i : ℕ) (own' : LoSession) → i < length sessions → IsPlaced i own' → ((place : ℕ) (session : LoSession) → slice_get sessions place ≡ Some session → IsPlaced place session) → (place : ℕ) (session : LoSession) → slice_get (slice_set sessions i own') place ≡ Some session → IsPlaced place session
placed_exchanged sessions i own' within placed each place session is = elim (cases_eq i place) [
  | inl same ↦
      let here = subst (λ (n : ℕ). slice_get (slice_set sessions i own') n ≡ Some own') same (set_here sessions i own' within) in
      subst (IsPlaced place) (same_Some own' session (sym here ∙ is)) (subst (λ (n : ℕ). IsPlaced n own') same placed)
  | inr other ↦ each place session (sym (set_other sessions i place own' other) ∙ is)
]

-- A session's descriptors are open, with views of their own, as contracts of calls say it.
pub own_open : (s : ℕ) (e : Server) (own : LoSession) → 1 ≤ s → IsServer e → slice_get e.sessions.items (s - 1) ≡ Some own → AreOpen (xacts_of e) s own.descs
own_open s e own low sound stood =
    let here = sound.placed (s - 1) own stood in
    let number : s - 1 + 1 ≡ s = omega arith in
    record {
      most = here.most;
      positions = here.positions;
      holds = subst (λ (n : ℕ). All (λ (d : Descriptor). IsOwnHold n d.hold) own.descs.entries.items) number here.holds;
      held = record { rest = others ++ cursors; all = all };
    }
  where
    others : List Snapshot
    others = flat_map holds_at (remove e.sessions.items (s - 1))

    cursors : List Snapshot
    cursors = cursor_holds (cursors_in e.tables)

    all : IsPermutation (xacts_of e).held (holds_at own ++ (others ++ cursors))
    all =
        IsPermutation-trans (xacts_of e).held (all_holds e.sessions.items ++ cursors) (holds_at own ++ (others ++ cursors)) sound.held
        (subst (IsPermutation (all_holds e.sessions.items ++ cursors)) (append_assoc (holds_at own) others cursors) (IsPermutation-append_left cursors (all_holds e.sessions.items) (holds_at own ++ others) (piece_first holds_at e.sessions.items (s - 1) own stood)))

-- and an entry of open descriptors stands at its place
pub placed_open : (s : ℕ) (x : Transactions) (own : LoSession) → 1 ≤ s → own.s ≡ s → AreOpen x s own.descs → IsPlaced (s - 1) own
placed_open s x own low number open' =
    let is : s ≡ s - 1 + 1 = omega arith in
    record {
      number = number ∙ is;
      most = open'.most;
      positions = open'.positions;
      holds = subst (λ (n : ℕ). All (λ (d : Descriptor). IsOwnHold n d.hold) own.descs.entries.items) is open'.holds;
    }

-- the entry at a place
pub record IsEntry {X : Type 0} (xs : List X) (i : ℕ) : Type 0 where
  pub entry : X
  pub is : slice_get xs i ≡ Some entry

pub entry_at : {X : Type 0} (xs : List X) (i : ℕ) → i < length xs → IsEntry xs i
entry_at [] i within = absurd (omega (arith, within))
entry_at (x ∷ xs) zero within = record { entry = x; is = refl }
entry_at (x ∷ xs) (suc i) within = let rest = entry_at xs i (omega (arith, within)) in record { entry = rest.entry; is = rest.is }

pub set_same : {X : Type 0} (xs : List X) (i : ℕ) (x : X) → slice_get xs i ≡ Some x → xs ≡ slice_set xs i x
set_same xs i x stood = sym (ap (slice_set xs i) (sym (get_or_from_slice_get xs i x x stood)) ∙ set-get_or xs i x)
