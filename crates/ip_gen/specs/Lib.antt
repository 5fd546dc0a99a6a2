pub mod Phases
pub mod Outcome
pub mod Laws
