pub mod Brief
pub mod Dates
pub mod Fields
pub mod Forms
pub mod Frugal
pub mod Loads
pub mod Words
