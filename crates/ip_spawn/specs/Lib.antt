pub mod Sizes
pub mod Spelling
pub mod Jobs
pub mod Counts
pub mod Children
pub mod Scripting
