use Rattle.std.proofs.Common.{Some, refl, sym, subst}
use Rattle.std.specs.Prelude.{OnOk}
use Rattle.row_versions.specs.Stack.{Each}
use Rattle.row_versions.specs.Store.{AddsVersion, GoesWith}
use Rattle.toast_chunks.specs.Calls.{IsFree, LeavesOwn}
use Rattle.toast_chunks.specs.Values.{GoWith}
use Rattle.toast_chunks.proofs.Steps.{left_more}
use Rattle.row_tables.specs.Keys.{key_cmp}
use Rattle.row_tables.proofs.Moving.{still_free}
use Rattle.row_tables.proofs.Putting.{rows_left}
use Rattle.row_tables.proofs.tables.Tables.put_row.Goals as goal

pub erase_all-requires-clause-free : goal.erase_all-requires-clause-free
erase_all-requires-clause-free c = subst (λ k. Each (IsFree k.xacts c.args.s c.move_out.new.chunks) c.args.gone.now) (sym c.move_out.ensures.core) (still_free c.args.core.now.xacts c.args.s c.args.outside.now c.args.row.items c.args.self.now.chunks c.move_out.new.chunks c.in_ok-move_out.ensures.ok c.args.gone.now c.requires.erasable c.requires.given)

pub put-requires-clause-goes : goal.put-requires-clause-goes
put-requires-clause-goes c = subst (λ k. GoesWith key_cmp k.xacts c.args.self.now.rows) (sym c.move_out.ensures.core) c.requires.goes.rows

pub returns-clause-left : goal.returns-clause-left
returns-clause-left c = record {
  rows = rows_left c.args.core.now.xacts c.args.s c.args.key (Some c.from_vec.result) c.args.self.now.rows c.put.new.self c.put.result
      (subst (λ k. OnOk c.put.result (AddsVersion key_cmp k.xacts c.args.s c.args.key (Some c.from_vec.result) c.args.self.now.rows c.put.new.self)) c.move_out.ensures.core c.put.ensures.ok)
      c.put.ensures.err;
  chunks = left_more c.args.core.now.xacts c.args.s c.args.self.now.chunks c.move_out.new.chunks c.erase_all.new.chunks c.move_out.ensures.left (subst (λ k. LeavesOwn k.xacts c.args.s c.move_out.new.chunks c.erase_all.new.chunks) c.move_out.ensures.core c.erase_all.ensures.left);
  catalog = refl;
  cursors = refl;
}

pub returns-clause-goes : goal.returns-clause-goes
returns-clause-goes c = record {
  rows = subst (λ k. GoesWith key_cmp k.xacts c.put.new.self) c.move_out.ensures.core c.put.ensures.goes;
  chunks = subst (λ k. GoWith k.xacts c.erase_all.new.chunks) c.move_out.ensures.core c.erase_all.ensures.goes;
}
