pub mod Merging
pub mod Applying
pub mod Planning
pub mod Going
pub mod Walking
pub mod Clashes
pub mod Outcomes
pub mod Answered
