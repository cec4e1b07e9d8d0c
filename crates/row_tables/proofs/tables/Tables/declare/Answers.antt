use Rattle.std.proofs.Common.{◌≡◌, ◌∙◌, ap, sym, subst, refl, true, false, ◌++◌, ◌∷◌, [], length, arith, ℕ, ℤ, List, w64, to_z, of_z}
use Rattle.std.specs.Prelude.{is_some, not}
use Rattle.std.proofs.lemmas.Int.{ints}
use Rattle.lo_base.specs.declared.refusal.Cause.TheVariants.{NoRow}
use Rattle.lo_base.specs.declared.refusal.Denied.TheVariants.{By}
use Rattle.xact_core.specs.declared.snapshot.Snapshot.{Snapshot}
use Rattle.xact_core.specs.Kept.{LooksWhole, current}
use Rattle.xact_core.specs.Transactions.{Transactions, levels_of}
use Rattle.row_versions.specs.Looks.{IsLook}
use Rattle.row_tables.specs.declared.cursors.Cursor.{Cursor}
use Rattle.row_tables.specs.Catalog.{table_in}
use Rattle.row_tables.specs.Terms.{refusal}
use Rattle.row_tables.specs.World.{world}
use Rattle.row_tables.proofs.Declaring.{cursor_there, declare_done, declare_keeps, declare_unrefused, exists_denies, is_declared, last_after, no_row_denies, row_there}
use Rattle.row_tables.proofs.tables.Tables.declare.Goals as goal

pub returns-then-is_none-clause-err : goal.returns-then-is_none-clause-err
returns-then-is_none-clause-err c =
    let same : to_z w64 (of_z w64 c.args.id) ≡ c.args.id = omega (arith, ints) in
    let look : IsLook c.args.core.now.xacts (current c.args.core.now.xacts c.args.s) = subst (IsLook c.args.core.now.xacts) c.snapshot-snap.ensures.view (c.snapshot-snap.ensures.kept c.requires.open) in
    no_row_denies (world c.args.core.now.xacts c.args.self.now c.args.s) look c.args.cursor c.args.table.now c.args.id c.in_ok-number.number c.in_ok-number.ensures.ok
    (row_there c.args.core.now.xacts c.args.self.now c.find.result c.snapshot-snap.result (current c.args.core.now.xacts c.args.s) c.in_ok-number.number c.args.id _ false c.find.ensures c.snapshot-snap.ensures.view same (c.is_none.ensures ∙ ap not c.if-is_none.true))
    c.refused.result (c.refused.ensures ∙ ap (λ (i : ℤ). By (refusal NoRow i)) same)

pub returns-then-is_some-clause-err : goal.returns-then-is_some-clause-err
returns-then-is_some-clause-err c =
    let same : to_z w64 (of_z w64 c.args.id) ≡ c.args.id = omega (arith, ints) in
    let look : IsLook c.args.core.now.xacts (current c.args.core.now.xacts c.args.s) = subst (IsLook c.args.core.now.xacts) c.snapshot-snap.ensures.view (c.snapshot-snap.ensures.kept c.requires.open) in
    exists_denies (world c.args.core.now.xacts c.args.self.now c.args.s) look c.args.cursor c.args.table.now c.args.id c.in_ok-number.number c.in_ok-number.ensures.ok
    (row_there c.args.core.now.xacts c.args.self.now c.find.result c.snapshot-snap.result (current c.args.core.now.xacts c.args.s) c.in_ok-number.number c.args.id _ true c.find.ensures c.snapshot-snap.ensures.view same (c.is_none.ensures ∙ ap not c.if-is_none.false))
    (cursor_there c.args.s c.args.cursor c.args.self.now.cursors c.find-2.result true c.find-2.ensures (sym c.is_some.ensures ∙ c.if-is_some.true))
    c.refused-then-is_some.result c.refused-then-is_some.ensures

pub returns-clause-ok : goal.returns-clause-ok
returns-clause-ok c =
    let same : to_z w64 (of_z w64 c.args.id) ≡ c.args.id = omega (arith, ints) in
    let look : IsLook c.args.core.now.xacts (current c.args.core.now.xacts c.args.s) = subst (IsLook c.args.core.now.xacts) c.snapshot-snap.ensures.view (c.snapshot-snap.ensures.kept c.requires.open) in
    let cursor : Cursor = record { session = c.args.s; name = c.args.cursor; table = c.in_ok-table.table; id = to_z w64 (of_z w64 c.args.id); level = c.levels.result; hold = c.in_ok-hold.hold } in
    let hold = c.in_ok-hold.ensures.view ∙ c.snapshot-snap.ensures.view in
    declare_done (world c.args.core.now.xacts c.args.self.now c.args.s) c.requires.ready c.hold.new.self (record { entries = c.push_reserved.new.self }) cursor
    (last_after _ _ _ cursor c.in_ok-make_room.ensures.same c.push_reserved.ensures.items) refl hold c.hold.ensures.others
    (ap (λ (x : Transactions). x.held) c.in_ok-hold.ensures.ok ∙ ap (λ (v : Snapshot). c.args.core.now.xacts.held ++ v ∷ []) (sym c.in_ok-hold.ensures.view))
    c.args.cursor c.args.table.now c.args.id
    (is_declared cursor c.args.cursor c.args.table.now c.args.id (length (levels_of c.args.core.now.xacts c.args.s)) _ refl (c.in_ok-table.ensures ∙ c.items.ensures) same (c.levels.ensures.count ∙ ap (λ (x : Transactions). length (levels_of x c.args.s)) c.in_ok-hold.ensures.ok) (ap (λ (v : Snapshot). v.clock) hold))
    (declare_unrefused (world c.args.core.now.xacts c.args.self.now c.args.s) look c.args.cursor c.args.table.now c.args.id c.in_ok-number.number c.in_ok-number.ensures.ok
    (row_there c.args.core.now.xacts c.args.self.now c.find.result c.snapshot-snap.result (current c.args.core.now.xacts c.args.s) c.in_ok-number.number c.args.id _ true c.find.ensures c.snapshot-snap.ensures.view same (c.is_none.ensures ∙ ap not c.if-is_none.false))
    (cursor_there c.args.s c.args.cursor c.args.self.now.cursors c.find-2.result false c.find-2.ensures (sym c.is_some.ensures ∙ c.if-is_some.false)))

pub returns-clause-keeps : goal.returns-clause-keeps
returns-clause-keeps c =
    let hold = c.in_ok-hold.ensures.view ∙ c.snapshot-snap.ensures.view in
    declare_keeps (world c.args.core.now.xacts c.args.self.now c.args.s) c.requires.ready c.hold.new.self (record { entries = c.push_reserved.new.self }) _
    (last_after _ _ _ _ c.in_ok-make_room.ensures.same c.push_reserved.ensures.items) refl hold c.hold.ensures.others
    (ap (λ (x : Transactions). x.held) c.in_ok-hold.ensures.ok ∙ ap (λ (v : Snapshot). c.args.core.now.xacts.held ++ v ∷ []) (sym c.in_ok-hold.ensures.view))
    (c.hold.ensures.whole (subst (λ (v : Snapshot). LooksWhole v.viewer) (sym c.snapshot-snap.ensures.view) tt) c.requires.ready.whole)
    c.in_ok-hold.ensures.views
    (subst (λ (n : List ℕ). is_some (table_in n c.args.self.now.catalog) ≡ true) (sym (c.in_ok-table.ensures ∙ c.items.ensures)) (rw c.in_ok-number.ensures.ok.found refl))
