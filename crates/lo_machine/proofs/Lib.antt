pub mod ActOutcomes
pub mod ArrayAnswers
pub mod ArrayCalls
mod ArrayExamples
pub mod ArrayNames
pub mod ArrayReplies
pub mod ArraySought
pub mod ArrayTexts
pub mod BlockAnswers
pub mod BlockRequests
pub mod CallAlone
pub mod CallCases
pub mod CallFinds
pub mod CallInBlock
pub mod CallLevels
pub mod CallSteps
pub mod CallsKept
pub mod CellsTold
pub mod ChangesJudged
pub mod CleanupsKept
pub mod CleanupsTold
pub mod CommittedObjects
pub mod CommittedRows
mod CursorExamples
pub mod CursorParts
pub mod CursorsAlike
mod DescriptorExamples
pub mod Dispatching
pub mod EngineSteps
mod Examples
pub mod FitFound
pub mod FitLiterals
pub mod FitObjects
pub mod FitOpenings
pub mod FitRuns
pub mod FitStates
pub mod FitTables
pub mod FitViews
pub mod FlatBytes
pub mod FlatEdits
pub mod FlatFound
pub mod FlatLiterals
pub mod FlatStates
pub mod Judging
pub mod KeptAlike
pub mod LevelBegins
pub mod LevelEnds
pub mod LevelMoves
pub mod LevelSteps
pub mod LineAdvances
pub mod LinesAlike
pub mod LoadedPages
pub mod NamedCursors
pub mod NewServer
pub mod NewestLevel
pub mod NoVariables
pub mod ObjectDeeds
mod ObjectExamples
pub mod ObjectsBack
pub mod OpenEdits
pub mod OpeningsBack
pub mod OpeningsFit
pub mod OpeningsWell
pub mod Orders
pub mod Outcomes
pub mod Passed
pub mod PlanEdits
mod PoolExamples
pub mod Readings
pub mod ReplayedRuns
pub mod RewritesAlike
pub mod RowJudged
pub mod RowsAlike
mod RunExamples
pub mod ScannedObjects
pub mod ScannedRows
pub mod ScannedTables
pub mod ScannedViews
pub mod ScriptLines
pub mod SessionPlaces
pub mod Steps
pub mod SweepActs
pub mod SweepAgain
pub mod SweepAlone
mod SweepAloneExamples
pub mod SweepEdits
mod SweepExamples
pub mod SweepGroups
pub mod SweepLaws
pub mod SweepObjects
pub mod SweepPast
pub mod SweepReports
pub mod SweepRequests
pub mod SweepRuns
pub mod SweepSpares
pub mod SweepStops
pub mod SweepUnrefused
pub mod SweepViews
pub mod TableCalls
mod TableExamples
pub mod TablesAlike
pub mod ToldSweeps
pub mod Unmet
pub mod WellEdits
pub mod WellRows
pub mod WellSessions
pub mod WellStates
mod WordsOfExamples
