-- A level that begins, of which no descriptor and no cursor knows.
use Rattle.std.proofs.Common.{◌≡◌, ℕ, ◌-◌, Bool, false, List, [], ◌∷◌, ◌++◌, Option, refl, sym, ◌∙◌, arith}
use Rattle.std.specs.Prelude.{slice_index_or}
use Rattle.std.proofs.lemmas.List.{set-get_or}
use Rattle.row_versions.specs.declared.base.Core.{Core}
use Rattle.row_tables.specs.World.{SameRows}
use Rattle.row_tables.proofs.Laws.{with_opened}
use Rattle.row_tables.proofs.Resting.{for_opened}
use Rattle.xact_core.specs.Ends.{Opens}
use Rattle.lo_pages.proofs.Standing.{go_opened, stand_opened}
use Rattle.lo_machine.specs.declared.server.Server.{Server}
use Rattle.lo_machine.specs.Server.{xacts_of, names_in, IsServer, Becomes}
use Rattle.lo_machine.specs.Moves.{unturned, session_opened}
use Rattle.lo_machine.specs.Well.{IsFirst}
use Rattle.lo_machine.proofs.LevelMoves.{Turned, Moves, Closes, cs, moved_sound, moved_becomes}
use Rattle.lo_machine.proofs.LevelSteps.{cursors_kept, ends_none, turned_begun, after_opened}
use Rattle.lo_machine.proofs.SessionPlaces.{IsEntry, entry_at, set_same}

module _ (s : ℕ) (name : Option (List ℕ)) (names : List (Option (List ℕ))) (old : Server) (core : Core) (sound : IsServer old) (more : names_in old s ++ name ∷ [] ≡ names) (first : IsFirst (names_in old s) → IsFirst names) (by : Opens s name (xacts_of old) core.xacts) where
  abbrev new : Server
  new = record old { core = core }

  abbrev flag : Bool
  flag = slice_index_or old.failed.items (s - 1) false

  entry : IsEntry old.sessions.items (s - 1)
  entry = entry_at old.sessions.items (s - 1) (omega (arith, by.levels.low, by.levels.high, sound.sixteen))

  same_rows : SameRows old.tables old.tables
  same_rows = record { rows = refl; chunks = refl; catalog = refl }

  abbrev moves : Moves s flag old new
  moves = record {
    own = entry.entry;
    own' = entry.entry;
    stood = entry.is;
    sessions = set_same old.sessions.items (s - 1) entry.entry entry.is;
    number = refl;
    failed = sym (set-get_or old.failed.items (s - 1) false);
    store = refl;
    rows = same_rows;
    others = λ t other. refl;
    named = sound.named s;
    variables = refl;
  }

  closes : Closes old entry.entry.descs entry.entry.descs old.tables (xacts_of old)
  closes = record { between = xacts_of old; descriptors = ends_none (xacts_of old) entry.entry.descs; cursors = cursors_kept (xacts_of old) (xacts_of old) old.tables.cursors old.tables.cursors refl refl (λ open'. open') }

  turned : Turned s names (xacts_of old) (xacts_of new)
  turned = turned_begun s name names (xacts_of old) core.xacts more first by

  pub begun_sound : IsServer new
  begun_sound = moved_sound s names flag old new sound moves (xacts_of old) closes turned (go_opened s name (xacts_of old) core.xacts old.store.pages by sound.goes) (sound.undos ∙ sym by.undos)

  pub begun_becomes : Becomes s names unturned (session_opened name) old new
  begun_becomes = moved_becomes s names flag old new sound moves (xacts_of old) closes turned unturned (session_opened name) (after_opened name (names_in old s) names flag entry.entry.descs (cs s names flag old new sound moves (xacts_of old) closes turned) more) (record {
    pages = λ ys stands. stand_opened s name (xacts_of old) core.xacts old.store.pages ys by stands;
    rows = λ ys stands. for_opened old.tables (xacts_of old) core.xacts s name ys by stands;
    go = λ goes. with_opened old.tables s name (xacts_of old) core.xacts by goes;
  })
