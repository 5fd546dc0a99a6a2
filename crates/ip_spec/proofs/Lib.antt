pub mod TreeAtLaws
pub mod TreeLaws
pub mod Subtrees
pub mod SameDirectory
pub mod GraftLaws
pub mod KnownBelow
pub mod Naming
pub mod Spelling
pub mod BatchLaws
pub mod Unique
pub mod Widths
pub mod HistoryLaws
pub mod ReadingLaws
pub mod CoreLaws
pub mod MergeLaws
pub mod OneMerge
pub mod MachineLaws
pub mod LineLaws
mod RecordBytes
mod StepPlaces
mod ReadingFaults
mod ReadBack
mod MergerAnswers
mod LoadLines
mod Played
mod TreeExamples
mod CommitExamples
mod MergeExamples
mod CollectionExamples
mod FaultExamples
mod FullDirectory
mod CommitBatches
mod InodeBatch
mod LineExamples
mod TextExamples
pub mod BitmapLaws
pub mod ReadingExact
pub mod FieldsRead
pub mod RecordsRead
