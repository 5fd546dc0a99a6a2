pub mod LineLemmas
pub mod LineFiles
pub mod LivePair
pub mod SameFiles
mod Settling
pub mod Moments
pub mod Counting
pub mod Happened
pub mod Concluding
pub mod Cleared
pub mod Judging
pub mod KeptSpace
pub mod RuleCases
pub mod RanOn
pub mod RunLemmas
pub mod TurnLemmas
pub mod Unwritten
pub mod SaidLemmas
pub mod LoadMoments
mod Looked
pub mod LoadLemmas
pub mod SummaryLemmas
pub mod WorkLemmas
pub mod EndingLaw
pub mod StatusLines
