pub mod Entries
pub mod Histories
