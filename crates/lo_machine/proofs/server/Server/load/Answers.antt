use Rattle.std.proofs.Common.{rules, ◌≡◌, w64, false, ap}
use Rattle.std.specs.Option.{option_copied}
use Rattle.std.proofs.lemmas.Int.{to_z-of_z}
use Rattle.lo_base.specs.declared.refusal.Denied.TheVariants.{NoMemory}
use Rattle.lo_base.specs.declared.reply.Reply.TheVariants.{Word}
use Rattle.lo_base.specs.declared.reply.Word.TheVariants as words
use Rattle.lo_machine.specs.ArrayRows.{load_line, variable_set}
use Rattle.lo_machine.proofs.ArrayAnswers.{same_lists}
use Rattle.lo_machine.proofs.ArrayCalls.{changed, denied_reads, found_reads}
use Rattle.lo_machine.proofs.ArrayNames.{set_as}
use Rattle.lo_machine.proofs.FlatFound.{load_makes, load_missing, load_passes, load_refused, load_unknown, unflat_row}
use Rattle.lo_machine.proofs.LinesAlike.{denied_by, refused_by}
use Rattle.lo_machine.proofs.server.Server.load.Goals as goal

pub get-requires : goal.get-requires
get-requires c = record { kept = c.snapshot-snap.ensures.kept c.requires.can.begun; goes = c.requires.can.rows }

pub returns-in-Err : goal.returns-in-Err
returns-in-Err c = (denied_by c.args.s c.args.self.now c.requires.can (load_line c.args.name.now c.args.table.now c.args.id c.args.column.now) c.in-Err.denied (λ r is. load_missing c.args.s c.args.self.now c.requires.can c.args.table.now c.args.id c.in-Err.denied (rw (c.snapshot-snap.ensures.view, to_z-of_z w64 c.args.id c.ranges.id) at (c.in-Err.ensures.err c.args.s)) r is c.args.name.now c.args.column.now))

pub returns-in_default : goal.returns-in_default
returns-in_default c = rw c.no_table.ensures (refused_by c.args.s c.args.self.now c.requires.can (load_line c.args.name.now c.args.table.now c.args.id c.args.column.now) _ (load_unknown c.args.s c.args.self.now c.args.table.now (option_copied c.columns.result) c.columns.ensures.columns (ap option_copied c.in_default.is) c.args.id c.args.name.now c.args.column.now))

pub returns-then-not-are_flat : goal.returns-then-not-are_flat
returns-then-not-are_flat c =
    let tells = rw (c.snapshot-snap.ensures.view, to_z-of_z w64 c.args.id c.ranges.id) at (c.in-Ok.ensures.ok c.args.s) in
    let no : c.are_flat.result ≡ false = search rules in
    rw c.no_array.ensures (refused_by c.args.s c.args.self.now c.requires.can (load_line c.args.name.now c.args.table.now c.args.id c.args.column.now) _ (λ ys shared sessions variables finds. absurd (unflat_row c.args.s c.args.self.now c.requires.can c.args.table.now c.args.id (option_copied c.columns.result) c.columns.ensures.columns c.in-Some.columns.now (ap option_copied c.in-Some.is) c.in-Ok.row tells ys shared sessions variables finds c.are_flat.result no (λ flat. c.are_flat.ensures.1 (rw c.items.ensures flat)))))

pub returns-in-Err-array_of : goal.returns-in-Err-array_of
returns-in-Err-array_of c =
    let tells = rw (c.snapshot-snap.ensures.view, to_z-of_z w64 c.args.id c.ranges.id) at (c.in-Ok.ensures.ok c.args.s) in
    refused_by c.args.s c.args.self.now c.requires.can (load_line c.args.name.now c.args.table.now c.args.id c.args.column.now) _ (λ ys shared sessions variables finds. load_refused c.args.s c.args.self.now c.requires.can c.args.table.now c.args.id (option_copied c.columns.result) c.columns.ensures.columns c.in-Some.columns.now (ap option_copied c.in-Some.is) c.in-Ok.row tells ys shared sessions variables finds c.args.name.now c.args.column.now c.in-Err-array_of.refusal c.in-Err-array_of.ensures.err)

pub returns-in-Ok-set : goal.returns-in-Ok-set
returns-in-Ok-set c =
    let tells = rw (c.snapshot-snap.ensures.view, to_z-of_z w64 c.args.id c.ranges.id) at (c.in-Ok.ensures.ok c.args.s) in
    found_reads c.args.s c.place.result c.args.self.now _ c.index_mut.result.now c.set.new.self
    (changed c.args.s c.place.result c.args.self.now c.index_mut.result.now c.set.new.self c.requires.can.sound c.requires.can.rows c.place.ensures.place c.place.ensures.within c.index_mut.ensures.value)
    (load_line c.args.name.now c.args.table.now c.args.id c.args.column.now) (Word words.Ok) (λ mine. variable_set c.args.name.now c.in-Ok-array_of.array mine)
    (λ mine is. set_as c.index_mut.result.now c.set.new.self c.args.name.now c.in-Ok-array_of.array mine c.in-Ok-set.ensures.own c.in-Ok-set.ensures.others is)
    (λ ys shared sessions variables finds. record {
      unrefused = load_passes c.args.s c.args.self.now c.requires.can c.args.table.now c.args.id (option_copied c.columns.result) c.columns.ensures.columns c.in-Some.columns.now (ap option_copied c.in-Some.is) c.in-Ok.row tells ys shared sessions variables finds c.args.name.now c.args.column.now c.in-Ok-array_of.array c.in-Ok-array_of.ensures.ok;
      granted = load_makes c.args.s c.args.self.now c.requires.can c.args.table.now c.args.id (option_copied c.columns.result) c.columns.ensures.columns c.in-Some.columns.now (ap option_copied c.in-Some.is) c.in-Ok.row tells ys shared sessions variables finds c.args.name.now c.args.column.now c.in-Ok-array_of.array c.in-Ok-array_of.ensures.ok;
    })

pub returns-in-Err-set : goal.returns-in-Err-set
returns-in-Err-set c =
    denied_reads c.args.s c.place.result c.args.self.now _ c.index_mut.result.now c.set.new.self
    (changed c.args.s c.place.result c.args.self.now c.index_mut.result.now c.set.new.self c.requires.can.sound c.requires.can.rows c.place.ensures.place c.place.ensures.within c.index_mut.ensures.value)
    (load_line c.args.name.now c.args.table.now c.args.id c.args.column.now) NoMemory (same_lists c.index_mut.result.now c.set.new.self c.in-Err-set.ensures.err) tt
