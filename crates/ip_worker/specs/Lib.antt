pub mod Faults
pub mod Steps
pub mod Whole
pub mod Working
