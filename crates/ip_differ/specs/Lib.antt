pub mod Differing
pub mod Sides
pub mod Pieces
