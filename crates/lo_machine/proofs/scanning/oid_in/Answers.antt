use Rattle.std.proofs.Common.{sym, ap, ◌∙◌}
use Rattle.lo_machine.proofs.ScannedRows.{cell_number, number_told}
use Rattle.lo_machine.proofs.scanning.oid_in.Goals as goal

pub returns-in-Oid : goal.returns-in-Oid
returns-in-Oid c value is = number_told value ∙ (ap cell_number (sym is) ∙ ap cell_number c.in-Oid.is)

pub returns-in-Null : goal.returns-in-Null
returns-in-Null c value is = number_told value ∙ (ap cell_number (sym is) ∙ ap cell_number c.in-Null.is)

pub returns-in-Int : goal.returns-in-Int
returns-in-Int c value is = number_told value ∙ (ap cell_number (sym is) ∙ ap cell_number c.in-Int.is)

pub returns-in-Inline : goal.returns-in-Inline
returns-in-Inline c value is = number_told value ∙ (ap cell_number (sym is) ∙ ap cell_number c.in-Inline.is)

pub returns-in-Text : goal.returns-in-Text
returns-in-Text c value is = number_told value ∙ (ap cell_number (sym is) ∙ ap cell_number c.in-Text.is)

pub returns-in-Outside : goal.returns-in-Outside
returns-in-Outside c value is = number_told value ∙ (ap cell_number (sym is) ∙ ap cell_number c.in-Outside.is)
