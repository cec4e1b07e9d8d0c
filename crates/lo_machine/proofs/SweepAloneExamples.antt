-- Small runs of clean-ups, computed by the checker: one that is alone, and two that are not and are stopped.
use Rattle.std.proofs.Common.{◌≡◌, refl, ℕ, zero, suc, Bool, true, false, List, [], ◌∷◌, ◌++◌, None, replicate}
use Rattle.std.specs.Prelude.{All}
use Rattle.std.proofs.lemmas.List.Elements.{All-nil, All-cons}
use Rattle.lo_base.specs.declared.request.Request.{Request}
use Rattle.lo_base.specs.declared.request.Request.TheVariants.{Begin, LoUnlink, Vacuumlo, Finish}
use Rattle.lo_model.specs.Opening.{Opening}
use Rattle.lo_model.specs.Transaction.{is_open}
use Rattle.lo_machine.specs.Replay.{Play}
use Rattle.lo_machine.specs.Run.{end_from, start_from}
use Rattle.lo_machine.specs.State.{session_of}
use Rattle.lo_machine.specs.SweepLaw.{does_act, EachOwn, Sweeping, IsSweepOf, IsAlone, is_stopped, beginning}

-- two objects that no table names
abbrev two_objects : Opening
two_objects = record {
  blocks = 0;
  counter = 16384;
  tables = [];
  objects = record { oid = 17001; bytes = [] } ∷ record { oid = 17002; bytes = [] } ∷ [];
}

-- a clean-up of session 1 in groups of one, beside a program of session 2, from a schedule on
abbrev sweep_of : (other : List Request) → (before since : List ℕ) → Sweeping
sweep_of other before since = record {
  programs = (Vacuumlo false 1 ∷ Finish ∷ []) ∷ other ∷ [];
  moment = end_from ((Vacuumlo false 1 ∷ Finish ∷ []) ∷ other ∷ []) (start_from two_objects) before;
  session = 1;
  dry = false;
  limit = 1;
  since = since;
}

abbrev run_of : (other : List Request) → (before since : List ℕ) → Play
run_of other before since = record {
  opening = two_objects;
  programs = (Vacuumlo false 1 ∷ Finish ∷ []) ∷ other ∷ [];
  schedule = before ++ 1 ∷ since;
  replies = [];
}

only_ones : (n : ℕ) → All (λ (t : ℕ). t ≡ 1) (replicate n 1)
only_ones zero = All-nil (λ (t : ℕ). t ≡ 1)
only_ones (suc n) = All-cons (λ (t : ℕ). t ≡ 1) 1 (replicate n 1) refl (only_ones n)

-- Alone it does its seven acts, and nothing is refused.

abbrev alone : Sweeping
alone = sweep_of [] [] (replicate 7 1)

alone_in_run : IsSweepOf (run_of [] [] (replicate 7 1)) alone
alone_in_run = record {
  before = [];
  programs = refl;
  moment = refl;
  schedule = refl;
  sweeping = record { line = refl; granted = refl; last = (λ own. refl, (λ own. refl, (λ own. refl, (λ own. refl, (λ own. refl, (λ own. refl, (λ own. refl, tt))))))) };
}

is_alone : IsAlone alone
is_alone = record {
  own = only_ones 7;
  acts = (λ own. refl, (λ own. refl, (λ own. refl, (λ own. refl, (λ own. refl, (λ own. refl, (λ own. refl, tt)))))));
  closed = λ t other. refl;
}

alone_goes_on : is_stopped alone ≡ false
alone_goes_on = refl

-- Where another session has unlinked an object in a block that is still open, the clean-up is stopped at it.

abbrev held : Sweeping
held = sweep_of (Begin ∷ LoUnlink 17002 ∷ []) (2 ∷ 2 ∷ []) (replicate 7 1)

held_acts : EachOwn does_act held.session held.programs (beginning held) held.since
held_acts = (λ own. refl, (λ own. refl, (λ own. refl, (λ own. refl, (λ own. refl, (λ own. refl, (λ own. refl, tt)))))))

held_open : is_open (session_of held.moment.state 2).transaction ≡ true
held_open = refl

held_stops : is_stopped held ≡ true
held_stops = refl

-- So it is where another session unlinks the object meanwhile, though it has no block.

abbrev passed : Sweeping
passed = sweep_of (LoUnlink 17002 ∷ []) [] (1 ∷ 1 ∷ 1 ∷ 2 ∷ 1 ∷ 1 ∷ 1 ∷ 1 ∷ [])

passed_stops : is_stopped passed ≡ true
passed_stops = refl
