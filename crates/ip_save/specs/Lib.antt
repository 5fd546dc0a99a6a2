pub mod Laid
pub mod Reused
pub mod Earlier
pub mod Batches
