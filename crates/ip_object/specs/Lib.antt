pub mod Body
pub mod Lists
pub mod Referring
