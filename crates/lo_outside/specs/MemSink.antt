-- A sink in memory, and what a write makes of it.
use Rattle.std.specs.Prelude.{ℕ, ◌-◌, ◌&&◌, ◌||◌, ◌++◌, nat_lt, nat_le, min, Bool, List, [], length, take, if◌then◌else◌}
use Rattle.lo_outside.specs.FaultPlan.{Planned, no_faults, handed_over, is_due, after_call}

-- a sink in memory: the bytes it took, how many it has room for in all, the most that one call takes, and the calls
-- that are to fail
pub record MemTaken : Type 0 where
  pub taken : List ℕ
  pub room : ℕ
  pub most : ℕ
  pub plan : Planned

abbrev pub empty_sink : ℕ → ℕ → MemTaken
empty_sink room most = record { taken = []; room = room; most = most; plan = no_faults }

-- no byte is free, and the piece has some
abbrev pub is_full_for : List ℕ → MemTaken → Bool
is_full_for piece sink = nat_le sink.room (length sink.taken) && nat_lt 0 (length piece)

-- whether the next call fails, with that piece
abbrev pub write_fails : List ℕ → MemTaken → Bool
write_fails piece sink = is_due sink.plan || is_full_for piece sink

-- as many bytes as the piece has, as one call takes, and as are free
abbrev pub write_count : List ℕ → MemTaken → ℕ
write_count piece sink = min (length piece) (min sink.most (sink.room - length sink.taken))

-- after one more call
abbrev pub after_write : List ℕ → MemTaken → MemTaken
after_write piece sink =
    record {
      taken =
          (if write_fails piece sink then sink.taken
          else sink.taken ++ take (write_count piece sink) piece);
      room = sink.room;
      most = sink.most;
      plan = after_call (write_fails piece sink) sink.plan;
    }

abbrev pub sink_with_plan : List ℕ → MemTaken → MemTaken
sink_with_plan calls sink =
    record {
      taken = sink.taken;
      room = sink.room;
      most = sink.most;
      plan = handed_over calls sink.plan;
    }
