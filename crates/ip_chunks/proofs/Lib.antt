pub mod Borders
mod Gaps
pub mod Bytes
pub mod Writing
mod Pieces
mod Syncing
mod Sweeping
pub mod Behind
