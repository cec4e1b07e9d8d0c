use Rattle.std.proofs.Common.{◌<◌, ◌∙◌, ap, sym, length, arith}
use Rattle.std.specs.Vec.{with_items}
use Rattle.row_tables.specs.Cursors.{own_cursors, holds_in}
use Rattle.row_tables.proofs.Passing.{entry_released, own_released, others_released, same_holds, stay_open, released_one, released_other}
use Rattle.row_tables.proofs.Mapping.{all_fronted, fronted_more}
use Rattle.row_tables.proofs.cursors.Cursors.release_level.Goals as goal
use Rattle.row_tables.proofs.cursors.Cursors.release_level.Goals.{then-eq, else-eq}

pub loop-cursor-preserved : goal.loop-cursor-preserved
loop-cursor-preserved c =
    let within : c.loop-cursor.cursor-index < length c.loop-cursor.cursor-items = omega arith in
    elim c.if-eq.branch [
      | then-eq w ↦ fronted_more (entry_released c.args.s c.args.level) c.loop-cursor.cursor-index c.args.self.now.entries.items c.loop-cursor.cursor-items _ c.cursor-item.result _ c.loop-cursor.invariant within (released_one c.args.s c.args.level _ (sym c.eq.ensures ∙ w.if-eq.true) ∙ (rw w.min-cursor.ensures)) w.cursor-items-is
      | else-eq w ↦ fronted_more (entry_released c.args.s c.args.level) c.loop-cursor.cursor-index c.args.self.now.entries.items c.loop-cursor.cursor-items _ c.cursor-item.result _ c.loop-cursor.invariant within (released_other c.args.s c.args.level _ (sym c.eq.ensures ∙ w.if-eq.false)) w.cursor-items-is
    ]

pub returns-clause-own : goal.returns-clause-own
returns-clause-own c =
    let all = all_fronted (entry_released c.args.s c.args.level) c.loop-cursor.cursor-index c.args.self.now.entries c.loop-cursor.cursor-items (omega arith) (omega arith) c.loop-cursor.invariant in
    ap (own_cursors c.args.s) all ∙ own_released c.args.s c.args.level c.args.self.now.entries.items

pub returns-clause-others : goal.returns-clause-others
returns-clause-others c t apart =
    let all = all_fronted (entry_released c.args.s c.args.level) c.loop-cursor.cursor-index c.args.self.now.entries c.loop-cursor.cursor-items (omega arith) (omega arith) c.loop-cursor.invariant in
    ap (own_cursors t) all ∙ others_released c.args.s t c.args.level apart c.args.self.now.entries.items

pub returns-clause-holds : goal.returns-clause-holds
returns-clause-holds c =
    let all = all_fronted (entry_released c.args.s c.args.level) c.loop-cursor.cursor-index c.args.self.now.entries c.loop-cursor.cursor-items (omega arith) (omega arith) c.loop-cursor.invariant in
    ap holds_in all ∙ same_holds c.args.s c.args.level c.args.self.now.entries.items

pub returns-clause-open : goal.returns-clause-open
returns-clause-open c x before =
    let all = all_fronted (entry_released c.args.s c.args.level) c.loop-cursor.cursor-index c.args.self.now.entries c.loop-cursor.cursor-items (omega arith) (omega arith) c.loop-cursor.invariant in
    stay_open x c.args.s c.args.level c.args.self.now (record { entries = with_items c.args.self.now.entries c.loop-cursor.cursor-items }) all before
