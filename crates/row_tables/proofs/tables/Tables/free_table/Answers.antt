use Rattle.std.proofs.Common.{pos, w64, ap, ◌∙◌}
use Rattle.std.proofs.lemmas.Int.{to_z-of_z}
use Rattle.lo_base.specs.declared.refusal.Cause.TheVariants.{Busy}
use Rattle.row_tables.specs.Terms.{refusal}
use Rattle.row_tables.proofs.JudgingRows.{free_all, held_one}
use Rattle.row_tables.proofs.tables.Tables.free_table.Goals as goal

pub returns-in-None-clause-ok : goal.returns-in-None-clause-ok
returns-in-None-clause-ok c = free_all c.args.core.now.xacts c.args.s c.args.self.now c.args.number c.in-None.ensures

pub returns-in-Some-clause-err : goal.returns-in-Some-clause-err
returns-in-Some-clause-err c = held_one c.args.core.now.xacts c.args.s c.args.self.now c.args.number c.in-Some.other _ c.in-Some.ensures (ap (refusal Busy) (to_z-of_z w64 c.from.result (record { sfits = c.from.type_inv }) ∙ (c.from.ensures ∙ ap pos c.number.ensures.same)))
