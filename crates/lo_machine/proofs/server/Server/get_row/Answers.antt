use Rattle.std.proofs.Common.{rules, ◌≡◌, w64, false, ap}
use Rattle.std.specs.Option.{option_copied}
use Rattle.std.proofs.lemmas.Int.{to_z-of_z}
use Rattle.lo_machine.specs.TableRows.{get_line}
use Rattle.lo_machine.proofs.FlatFound.{get_missing, get_unknown, told_match, told_reading, told_row, told_tells, unflat_row}
use Rattle.lo_machine.proofs.LinesAlike.{denied_by, no_memory, refused_by}
use Rattle.lo_machine.proofs.TableCalls.{tells_ok}
use Rattle.lo_machine.proofs.server.Server.get_row.Goals as goal

pub get-requires : goal.get-requires
get-requires c = record { kept = c.snapshot-snap.ensures.kept c.requires.can.begun; goes = c.requires.can.rows }

pub returns-in-Err : goal.returns-in-Err
returns-in-Err c = denied_by c.args.s c.args.self.now c.requires.can (get_line c.args.table.now c.args.id) c.in-Err.denied (λ r is. get_missing c.args.s c.args.self.now c.requires.can c.args.table.now c.args.id c.in-Err.denied (rw (c.snapshot-snap.ensures.view, to_z-of_z w64 c.args.id c.ranges.id) at (c.in-Err.ensures.err c.args.s)) r is)

pub returns-in_default : goal.returns-in_default
returns-in_default c = rw c.no_table.ensures (refused_by c.args.s c.args.self.now c.requires.can (get_line c.args.table.now c.args.id) _ (get_unknown c.args.s c.args.self.now c.args.table.now (option_copied c.columns.result) c.columns.ensures.columns (ap option_copied c.in_default.is) c.args.id))

pub returns-then-not-are_flat : goal.returns-then-not-are_flat
returns-then-not-are_flat c =
    let tells = rw (c.snapshot-snap.ensures.view, to_z-of_z w64 c.args.id c.ranges.id) at (c.in-Ok.ensures.ok c.args.s) in
    let no : c.are_flat.result ≡ false = search rules in
    rw c.no_array.ensures (refused_by c.args.s c.args.self.now c.requires.can (get_line c.args.table.now c.args.id) _ (λ ys shared sessions variables finds. absurd (unflat_row c.args.s c.args.self.now c.requires.can c.args.table.now c.args.id (option_copied c.columns.result) c.columns.ensures.columns c.in-Some.columns.now (ap option_copied c.in-Some.is) c.in-Ok.row tells ys shared sessions variables finds c.are_flat.result no (λ flat. c.are_flat.ensures.1 (rw c.items.ensures flat)))))

pub returns-in_default-reply_cells : goal.returns-in_default-reply_cells
returns-in_default-reply_cells c = no_memory c.args.s c.args.self.now c.requires.can (get_line c.args.table.now c.args.id)

pub returns : goal.returns
returns c =
    let tells = rw (c.snapshot-snap.ensures.view, to_z-of_z w64 c.args.id c.ranges.id) at (c.in-Ok.ensures.ok c.args.s) in
    tells_ok c.args.s c.args.self.now c.requires.can (get_line c.args.table.now c.args.id) (told_row c.args.table.now c.args.id c.in-Some.columns.now) (λ ys shared sessions variables finds. told_match c.args.s c.args.self.now c.requires.can c.args.table.now c.args.id (option_copied c.columns.result) c.columns.ensures.columns c.in-Some.columns.now (ap option_copied c.in-Some.is) c.in-Ok.row tells ys shared sessions variables finds) (told_reading c.args.table.now c.args.id c.in-Some.columns.now) _ (told_tells c.args.table.now c.args.id c.in-Some.columns.now _ _ c.in-Ok.row c.in-Ok-reply_cells.cells tells c.in-Ok-reply_cells.ensures)
