-- Sixteen sessions at their beginning.
use Rattle.std.specs.Prelude.{◌≡◌, ℕ, ◌+◌, List, [], length, slice_get, Some, None}
use Rattle.lo_calls.specs.declared.session.LoSession.{LoSession}
use Rattle.lo_calls.specs.Descriptors.{descriptors_of, holds_of, AreOpen}
use Rattle.xact_core.specs.Transactions.{Transactions}
use Rattle.lo_machine.specs.Variables.{array_at}
use Rattle.lo_machine.specs.declared.variables.Variables.{Variables}

pub record IsNew (place : ℕ) (session : LoSession) : Type 0 where
  pub number : session.s ≡ place + 1
  pub none : descriptors_of session.descs ≡ []
  pub holds : holds_of session.descs ≡ []
  pub stay : (x : Transactions) (s : ℕ) → AreOpen x s session.descs

pub record AreNew (sessions : List LoSession) : Type 0 where
  pub sixteen : length sessions ≡ 16
  pub each : (place : ℕ) (session : LoSession) → slice_get sessions place ≡ Some session → IsNew place session

-- sixteen sessions without array variables
pub record AreNone (lists : List Variables) : Type 0 where
  pub sixteen : length lists ≡ 16
  pub each : (place : ℕ) (own : Variables) → slice_get lists place ≡ Some own → (name : List ℕ) → array_at own name ≡ None
