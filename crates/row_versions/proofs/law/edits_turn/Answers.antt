use Rattle.std.proofs.Common.{◌∙◌}
use Rattle.xact_core.specs.Ends.{release, undo, commit_at}
use Rattle.row_versions.specs.Stands.{standing}
use Rattle.row_versions.proofs.Agreeing.{standing_turned}
use Rattle.row_versions.proofs.Laws.{turned_released, turned_undone, turned_committed}
use Rattle.row_versions.proofs.law.edits_turn.Goals as goal

pub returns-clause-released : goal.returns-clause-released
returns-clause-released g c s k old new vs turns fits = standing_turned (release s k) old new vs turns fits ∙ turned_released s k (standing old vs)

pub returns-clause-undone : goal.returns-clause-undone
returns-clause-undone g c s k old new vs turns fits = standing_turned (undo s k) old new vs turns fits ∙ turned_undone s k (standing old vs)

pub returns-clause-committed : goal.returns-clause-committed
returns-clause-committed g c s k old new vs turns fits = standing_turned (commit_at s k) old new vs turns fits ∙ turned_committed s k (standing old vs)
