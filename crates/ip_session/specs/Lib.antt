pub mod Session
pub mod Placing
pub mod Running
pub mod Asking
pub mod Starting
pub mod Clearing
pub mod Wanting
