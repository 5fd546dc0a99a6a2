pub mod Ancestry
pub mod Commits
pub mod MergeTurns
pub mod Working
