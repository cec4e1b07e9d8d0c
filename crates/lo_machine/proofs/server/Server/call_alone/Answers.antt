use Rattle.lo_machine.specs.Server.{xacts_of}
use Rattle.lo_machine.proofs.CallAlone.{alone_reply, alone_leaves, alone_refused, alone_refused_leaves, alone_stands}
use Rattle.lo_machine.proofs.CallFinds.{clock_kept, lost_rows}
use Rattle.lo_model.specs.Session.{session_undone}
use Rattle.std.proofs.Common.{false, length, ap, sym, ◌≤◌, ◌∙◌}
use Rattle.lo_machine.proofs.server.Server.call_alone.Goals as goal

pub returns-in-Ok-do_call-clause-ok : goal.returns-in-Ok-do_call-clause-ok
returns-in-Ok-do_call-clause-ok c =
    let range : (1 ≤ c.args.s) × (c.args.s ≤ 16) = rw c.number.ensures.same at c.number.ensures.range in
    let e0 = c.args.self.now in
    let e1 = c.open.new.self in
    let e2 = c.do_call.new.self in
    let e3 = c.end_committed.new.self in
    let answers = c.in-Ok-do_call.ensures in
    let ends = c.end_committed.ensures.becomes in
    record {
      reply = λ st stands. alone_reply c.args.s range.0 range.1 e0 e1 e2 c.requires.none c.in-Ok.ensures.ok answers.xacts st stands c.args.request.now c.requires.call c.requires.placed c.in-Ok-do_call.reply answers.ok;
      leaves = λ st stands. alone_leaves c.args.s range.0 range.1 e0 e1 e2 c.requires.none c.in-Ok.ensures.ok answers.xacts st stands c.args.request.now c.requires.call c.requires.placed c.in-Ok-do_call.reply answers.ok e3 ends;
      rows = λ old. ends.rows answers.ok.rows;
      time = ends.time ∙ (clock_kept (xacts_of e1) (xacts_of e2) answers.xacts ∙ c.in-Ok.ensures.ok.time);
    }

pub returns-in-Err-By-clause-ok : goal.returns-in-Err-By-clause-ok
returns-in-Err-By-clause-ok c =
    let range : (1 ≤ c.args.s) × (c.args.s ≤ 16) = rw c.number.ensures.same at c.number.ensures.range in
    let e0 = c.args.self.now in
    let e1 = c.open.new.self in
    let e2 = c.do_call.new.self in
    let e3 = c.end_aborted.new.self in
    let answers = c.in-Err-By.ensures in
    let ends = c.end_aborted.ensures.becomes in
    let refuses = rw (c.in-Err-By.field-0-is) at answers.err in
    record {
      reply = λ st stands. alone_refused c.args.s range.0 range.1 e0 e1 e2 c.requires.none c.in-Ok.ensures.ok answers.xacts st stands c.args.request.now c.requires.call c.requires.placed c.in-Err-By.refusal refuses;
      leaves = λ st stands. alone_refused_leaves c.args.s range.0 range.1 e0 e1 e2 c.requires.none c.in-Ok.ensures.ok answers.xacts st stands c.args.request.now c.requires.call c.requires.placed c.in-Err-By.refusal refuses e3 ends;
      rows = λ old. ends.rows refuses.stays.rows;
      time = ends.time ∙ (clock_kept (xacts_of e1) (xacts_of e2) answers.xacts ∙ c.in-Ok.ensures.ok.time);
    }

pub returns-in-Err-NoMemory-clause-err : goal.returns-in-Err-NoMemory-clause-err
returns-in-Err-NoMemory-clause-err c =
    let range : (1 ≤ c.args.s) × (c.args.s ≤ 16) = rw c.number.ensures.same at c.number.ensures.range in
    let e0 = c.args.self.now in
    let e1 = c.open.new.self in
    let e2 = c.do_call.new.self in
    let e3 = c.undo.new.self in
    let e4 = c.end_aborted-in-Err-NoMemory.new.self in
    let answers = c.in-Err-NoMemory.ensures in
    let undoes = c.undo.ensures in
    let ends = c.end_aborted-in-Err-NoMemory.ensures.becomes in
    let lacks = rw (c.in-Err-NoMemory.field-0-is) at answers.err in
    record {
      stands = λ st stands. alone_stands c.args.s range.0 range.1 e0 e1 e2 c.requires.none c.in-Ok.ensures.ok answers.xacts st stands lacks e3 e4 _ undoes.becomes undoes.loses ends;
      rows = λ old. ends.rows (lost_rows c.args.s 1 e1 e2 e3 (sym (ap length c.in-Ok.ensures.ok.names)) lacks _ (session_undone 1 false) undoes.becomes undoes.loses (c.in-Ok.ensures.ok.rows old));
      time = ends.time ∙ (undoes.becomes.time ∙ (clock_kept (xacts_of e1) (xacts_of e2) answers.xacts ∙ c.in-Ok.ensures.ok.time));
    }
