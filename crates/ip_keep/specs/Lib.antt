pub mod Entering
pub mod Faults
pub mod Going
pub mod KeepView
pub mod Keeping
pub mod Runs
pub mod Whole
