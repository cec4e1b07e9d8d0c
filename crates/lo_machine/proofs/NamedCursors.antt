-- Cursors whose tables are there, told of all at once and session by session.
use Rattle.std.proofs.Common.{◌≡◌, ℕ, Bool, true, false, List, [], ◌∷◌, map, filter, cond, subst, arith}
use Rattle.std.specs.Prelude.{All, ◌==◌}
use Rattle.std.proofs.lemmas.Bool.Decides.{nat_tests}
use Rattle.std.proofs.lemmas.List.Elements.{All-nil, All-cons, All-head, All-tail, All-map, All-filter}
use Rattle.lo_model.specs.Database.{Table}
use Rattle.row_tables.specs.declared.cursors.Cursor.{Cursor}
use Rattle.row_tables.specs.Cursors.{cursor_by, is_own, own_cursors}
use Rattle.lo_machine.specs.Server.{IsNamed}

abbrev pub IsThere : List Table → Cursor → Type 0
IsThere tables c = IsNamed tables (cursor_by c)

pub own_named : (tables : List Table) (s : ℕ) (entries : List Cursor) → All (IsThere tables) entries → All (IsNamed tables) (own_cursors s entries)
own_named tables s entries all = All-map (IsNamed tables) cursor_by (filter (is_own s) entries) (All-filter (is_own s) (IsThere tables) entries all)

pub all_named : (tables : List Table) (entries : List Cursor) → ((s : ℕ) → All (IsNamed tables) (own_cursors s entries)) → All (IsThere tables) entries
all_named tables [] each = All-nil (IsThere tables)
all_named tables (c ∷ cs) each = All-cons (IsThere tables) c cs (first (each c.session)) (all_named tables cs rest)
  where
    own : (c.session == c.session) ≡ true
    own = grind (arith, nat_tests)

    first : All (IsNamed tables) (own_cursors c.session (c ∷ cs)) → IsThere tables c
    first all = All-head (IsNamed tables) (cursor_by c) (own_cursors c.session cs) (subst (λ (test : Bool). All (IsNamed tables) (map cursor_by (cond test (c ∷ filter (is_own c.session) cs) (filter (is_own c.session) cs)))) own all)

    tail : (s : ℕ) (test : Bool) → All (IsNamed tables) (map cursor_by (cond test (c ∷ filter (is_own s) cs) (filter (is_own s) cs))) → All (IsNamed tables) (own_cursors s cs)
    tail s true all = All-tail (IsNamed tables) (cursor_by c) (own_cursors s cs) all
    tail s false all = all

    rest : (s : ℕ) → All (IsNamed tables) (own_cursors s cs)
    rest s = tail s (is_own s c) (each s)
