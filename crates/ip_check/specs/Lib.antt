pub mod Alike
pub mod CheckView
pub mod Checking
pub mod Faults
pub mod Going
pub mod Pieces
pub mod Stretching
