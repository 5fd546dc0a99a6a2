pub mod Numbers
pub mod Order
pub mod Lookup
pub mod Outcomes
pub mod Writing
pub mod Placing
