pub mod Commits
pub mod Merging
pub mod Naming
