pub mod Lists
pub mod Order
pub mod Appending
pub mod Sweeping
pub mod Stepping
pub mod Running
