pub mod Merging
pub mod Names
pub mod Parts
pub mod Places
pub mod Small
