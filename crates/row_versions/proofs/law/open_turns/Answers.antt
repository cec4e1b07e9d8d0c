use Rattle.std.proofs.Common.{◌∙◌, ap, sym}
use Rattle.xact_core.specs.Ends.{release, undo, commit_at}
use Rattle.xact_core.specs.Laws.{before_release, before_undo}
use Rattle.row_versions.specs.Stands.{before_commit}
use Rattle.row_versions.specs.Vacuum.{any_open}
use Rattle.row_versions.proofs.Agreeing.{open_turned, opens_release, opens_undo, opens_commit}
use Rattle.row_versions.proofs.Laws.{turned_released, turned_undone, turned_committed}
use Rattle.row_versions.proofs.Lowest.{lowest_alike}
use Rattle.row_versions.proofs.law.open_turns.Goals as goal

pub returns-clause-released : goal.returns-clause-released
returns-clause-released g c s k viewer es low = ap (any_open viewer) (sym (turned_released s k es)) ∙ open_turned (release s k) (before_release s k) (opens_release s k low) viewer es

pub returns-clause-undone : goal.returns-clause-undone
returns-clause-undone g c s k viewer es = ap (any_open viewer) (sym (turned_undone s k es)) ∙ open_turned (undo s k) (before_undo s k) (opens_undo s k) viewer es

pub returns-clause-committed : goal.returns-clause-committed
returns-clause-committed g c s k viewer es = ap (any_open viewer) (sym (turned_committed s k es)) ∙ open_turned (commit_at s k) (before_commit s) (opens_commit s k) viewer es

pub returns-clause-lowest : goal.returns-clause-lowest
returns-clause-lowest g c s xs ys alike = lowest_alike s xs ys alike
