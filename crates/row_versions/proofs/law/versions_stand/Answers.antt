use Rattle.std.proofs.Common.{subst, sym}
use Rattle.xact_core.specs.Transactions.{Transactions}
use Rattle.row_versions.specs.Stands.{Stands}
use Rattle.row_versions.proofs.Laws.{stands_released, stands_undone, stands_committed, stands_aborted, stands_ticked, stands_opened, stands_holding, stands_pushed, stands_touched, stands_vacuumed, stands_restored, stands_revalued, stands_none, stands_edits, turned_released, turned_undone, turned_committed}
use Rattle.row_versions.proofs.law.versions_stand.Goals as goal

pub returns-clause-released : goal.returns-clause-released
returns-clause-released g c value after first s k old new vs ys by stands = stands_edits value after first new vs _ _ (turned_released s k ys) (stands_released value after first s k old new vs ys by.ends.levels.low by.low by.high by.ends.owners by.ends.levels by.ends.clock by.ends.held by.whole stands)

pub returns-clause-undone : goal.returns-clause-undone
returns-clause-undone g c value after first s k old new vs ys by stands = stands_edits value after first new vs _ _ (turned_undone s k ys) (stands_undone value after first s k old new vs ys by.ends.levels.low by.low by.high by.ends.owners by.ends.levels by.ends.clock by.ends.held by.whole stands)

pub returns-clause-committed : goal.returns-clause-committed
returns-clause-committed g c value after first s old new vs ys by stands = stands_edits value after first new vs _ _ (turned_committed s old.clock ys) (stands_committed value after first s old new vs ys by.ends.levels.low by.some by.ends.owners by.ends.levels by.ends.clock by.ends.held by.whole stands)

pub returns-clause-aborted : goal.returns-clause-aborted
returns-clause-aborted g c value after first s old new vs ys by stands = stands_edits value after first new vs _ _ (turned_undone s 1 ys) (stands_aborted value after first s old new vs ys by.ends.levels.low by.some by.ends.owners by.ends.levels by.ends.clock by.ends.held by.whole stands)

pub returns-clause-ticked : goal.returns-clause-ticked
returns-clause-ticked g c value after first old new vs ys by stands = subst (λ (x : Transactions). Stands x value after first vs ys) (sym by.is) (stands_ticked value after first old vs ys stands)

pub returns-clause-opened : goal.returns-clause-opened
returns-clause-opened g c value after first s name old new vs ys by stands = stands_opened value after first s name old new vs ys by.levels.low by stands

pub returns-clause-held : goal.returns-clause-held
returns-clause-held g c value after first old new vs ys by stands = subst (λ (x : Transactions). Stands x value after first vs ys) (sym by.rest) (stands_holding value after first old new.held vs ys by.kept stands)

pub returns-clause-pushed : goal.returns-clause-pushed
returns-clause-pushed g c value after first x s vs ys put deed one some readers new free makes stands = stands_pushed value after first x s vs ys put deed one some readers new free makes stands

pub returns-clause-touched : goal.returns-clause-touched
returns-clause-touched g c value after first x s vs ys deed one some readers free makes stands = stands_touched value after first x s vs ys deed one some readers free makes stands

pub returns-clause-vacuumed : goal.returns-clause-vacuumed
returns-clause-vacuumed g c erases value after first x vs ys gives stands = stands_vacuumed erases value after first x vs ys gives stands

pub returns-clause-restored : goal.returns-clause-restored
returns-clause-restored g c value after first s old new vs us ys turns adds fits stands = stands_restored value after first s old new vs us ys turns adds fits stands

pub returns-clause-none : goal.returns-clause-none
returns-clause-none g c value after first x = stands_none value after first x

pub returns-clause-revalued : goal.returns-clause-revalued
returns-clause-revalued g c value value' after first x vs ys alike stands = stands_revalued value value' after first x vs ys alike stands
