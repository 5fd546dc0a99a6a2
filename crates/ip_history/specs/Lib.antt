pub mod History
pub mod Frontier
