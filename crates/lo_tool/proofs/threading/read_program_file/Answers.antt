use Rattle.lo_tool.specs.ScriptFile.{OutsideGrammar}
use Rattle.lo_tool.proofs.ThreadsRead.{no_program}
use Rattle.lo_tool.proofs.threading.read_program_file.Goals as goal

pub returns-in-Err-Bad-clause-err : goal.returns-in-Err-Bad-clause-err
returns-in-Err-Bad-clause-err g c =
    let bytes = c.in_ok-bytes.bytes in
    OutsideGrammar bytes c.in_ok-bytes.ensures.ok (record {
      line_number = c.in-Err-Bad.bad.line;
      column = c.in-Err-Bad.bad.column;
      none = no_program bytes ((rw (c.in-Err-Bad.field-0-is, c.items.ensures) at c.in-Err-Bad.ensures.bad) tt);
      first = rw (c.in-Err-Bad.field-0-is, c.items.ensures) at c.in-Err-Bad.ensures.first;
      said = c.in_ok-bad_grammar_line-in-Err-Bad.ensures;
    })
