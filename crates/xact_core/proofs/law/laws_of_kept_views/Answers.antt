use Rattle.xact_core.proofs.KeptViews.{kept_is, is_kept}
use Rattle.xact_core.proofs.law.laws_of_kept_views.Goals as goal

pub returns-clause-only : goal.returns-clause-only
returns-clause-only c = kept_is

pub returns-clause-all : goal.returns-clause-all
returns-clause-all c = is_kept
