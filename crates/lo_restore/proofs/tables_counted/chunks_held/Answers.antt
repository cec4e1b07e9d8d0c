use Rattle.std.proofs.Common.{None, inl, inr, arith}
use Rattle.lo_restore.proofs.TablesCountable.{opening_numbered, opening_plans}
use Rattle.lo_restore.proofs.tables_counted.chunks_held.Goals as goal

pub counts_in-requires : goal.counts_in-requires
counts_in-requires c = opening_plans None 1 1 c.args.list.now c.requires.rules

pub unreachable-requires : goal.unreachable-requires
unreachable-requires c =
    let few = opening_numbered None 1 1 c.args.list.now c.requires.rules (omega arith) in
    elim c.in_default.ensures.none [
      | inl values ↦ absurd (omega (arith, few, values))
      | inr chunks ↦ absurd (omega (arith, c.requires.few, chunks))
    ]
