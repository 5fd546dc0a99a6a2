pub mod Audits
pub mod Changes
pub mod Memory
pub mod Placed
pub mod View
