pub mod Fields
pub mod PathText
