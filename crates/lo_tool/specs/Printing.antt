-- How the printing of a text or of a line ends.
use Rattle.std.specs.Prelude.{◌≡◌, ℕ, List}
use Rattle.lo_outside.specs.Faults.{Rose}
use Rattle.lo_tool.specs.declared.run.Status.{Status}
use Rattle.lo_tool.specs.declared.run.Status.TheVariants.{Done, Fault}
use Rattle.lo_tool.specs.Outside.{SinkState, Took, TookFront}
use Rattle.lo_tool.specs.Texts.{fault_line}

-- a line was said on standard error, which ends a command with a status, or with a fault where standard error failed
pub data Complains (line : List ℕ) (status : Status) (err err' : SinkState) (result : Status)
    : Type 0 where
  Said :
      result ≡ status → Took line err err' → err'.faults ≡ err.faults →
      Complains line status err err' result
  Failed :
      result ≡ Fault → TookFront line err err' → Rose err.faults err'.faults →
      Complains line status err err' result

-- a text was printed, or standard output failed in it, which was said
pub data Prints (text : List ℕ) (out out' err err' : SinkState) (result : Status) : Type 0 where
  Printed :
      result ≡ Done → Took text out out' → out'.faults ≡ out.faults → err' ≡ err →
      Prints text out out' err err' result
  Lost :
      result ≡ Fault → TookFront text out out' → Rose out.faults out'.faults →
      Complains fault_line Fault err err' result →
      Prints text out out' err err' result
