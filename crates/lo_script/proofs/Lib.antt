mod Examples
mod ProgramExamples
mod SweepExamples
mod TableExamples
pub mod ArrayForms
pub mod CutTexts
pub mod DecimalsAndBytes
pub mod ExactForms
pub mod FirstBadLines
pub mod LargeObjectForms
pub mod MachineReplies
pub mod MarksAndNames
pub mod OneLineReplies
pub mod PrintedFronts
pub mod PrintedValues
pub mod ProgramTexts
pub mod ReadLists
pub mod Readers
pub mod ScriptOrder
pub mod SpelledRequests
pub mod SweepForms
pub mod SweepLines
pub mod TableForms
pub mod ValueTokens
pub mod WrittenLines
