pub mod Names
pub mod Opened
pub mod Children
pub mod Started
