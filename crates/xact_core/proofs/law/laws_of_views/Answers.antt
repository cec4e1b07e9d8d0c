use Rattle.xact_core.proofs.ViewLaws.{released_views, undone_views, committed_later, committed_earlier, open_hidden, later_hidden}
use Rattle.xact_core.proofs.law.laws_of_views.Goals as goal

pub returns-clause-release : goal.returns-clause-release
returns-clause-release g c s k edits low = record { same = λ clock viewer. released_views s k clock viewer edits low }

pub returns-clause-undo : goal.returns-clause-undo
returns-clause-undo g c s k edits = record { same = λ clock viewer. undone_views s k clock viewer edits }

pub returns-clause-commit : goal.returns-clause-commit
returns-clause-commit g c s at edits = record {
  later = λ n after. committed_later s at n edits after;
  earlier = λ n viewer before apart. committed_earlier s at n viewer edits before apart;
}

pub returns-clause-add : goal.returns-clause-add
returns-clause-add g c made deed edits = record {
  hidden = λ s l clock viewer apart. open_hidden s l made clock viewer deed edits apart;
  later = λ clock viewer owner early. later_hidden made clock viewer owner deed edits early;
}
