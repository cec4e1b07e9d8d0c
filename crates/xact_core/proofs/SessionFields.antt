-- What a session's fields stand for, after levels were cut off and where one is read.
use Rattle.std.proofs.Common.{ℕ, ◌+◌, ◌-◌, ◌<◌, ◌≤◌, ◌≡◌, ◌≢◌, List, Some, take, refl, ap, sym, subst, ◌∙◌, length, arith}
use Rattle.std.specs.Prelude.{slice_get, slice_index_or, option_map}
use Rattle.std.proofs.lemmas.List.{take-map, get_or-map, length-map}
use Rattle.std.proofs.lemmas.Option.{same_Some, slice_get_read, slice_get-map}
use Rattle.xact_core.specs.declared.session.Level.{Level}
use Rattle.xact_core.specs.Opened.{Opened, name_of, start_of, opened_of, start, with_released, with_undone}
use Rattle.xact_core.proofs.Newest.{HasNoFrom, none_before}

pub released_fields : (k : ℕ) (levels : List Level) (places : List ℕ) → opened_of (take (k - 1) levels) places ≡ with_released k (opened_of levels places)
released_fields k levels places = rw (take-map name_of (k - 1) levels, take-map start_of (k - 1) levels) refl

pub start_there : (k : ℕ) (levels : List Level) (places : List ℕ) (level : Level) → k - 1 < length levels → level ≡ slice_index_or levels (k - 1) level → start (opened_of levels places) k ≡ level.start
start_there k levels places level within read = get_or-map start_of levels (k - 1) level 0 within ∙ sym (ap start_of read)

pub undone_fields : (k : ℕ) (levels : List Level) (places : List ℕ) (level : Level) → k - 1 < length levels → level ≡ slice_index_or levels (k - 1) level → opened_of (take k levels) (take (level.start + 1) places) ≡ with_undone k (opened_of levels places)
undone_fields k levels places level within read = rw (take-map name_of k levels, take-map start_of k levels, start_there k levels places level within read) refl

pub level_within : (levels : List Level) (places : List ℕ) (session : Opened) (k : ℕ) → opened_of levels places ≡ session → 1 ≤ k → k ≤ length session.starts → k - 1 < length levels
level_within levels places session k is low high = omega (arith, low, high, ap (λ (o : Opened). length o.starts) is, length-map levels start_of)

-- a level more, which was read and has another name or none
pub none_read : (levels : List Level) (places : List ℕ) (session : Opened) (name : List ℕ) (end : ℕ) (level : Level) → opened_of levels places ≡ session → 0 < end → end ≤ length levels → level ≡ slice_index_or levels (end - 1) level → level.name ≢ Some name → HasNoFrom session.names name end → HasNoFrom session.names name (end - 1)
none_read levels places session name end level is some within read other later =
    none_before session.names name (end - 1) (λ named. other (same_Some _ _ (sym there ∙ named)))
    (let next : end ≡ end - 1 + 1 = omega arith in subst (HasNoFrom session.names name) next later)
  where
    at : slice_get levels (end - 1) ≡ Some level
    at = slice_get_read levels (length levels) (end - 1) level refl (omega arith) read

    there : slice_get session.names (end - 1) ≡ Some level.name
    there = ap (λ (o : Opened). slice_get o.names (end - 1)) (sym is) ∙ slice_get-map name_of levels (end - 1) ∙ ap (option_map name_of) at
