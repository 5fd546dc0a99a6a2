mod Bits
mod Decided
pub mod Lists
mod Named
mod Parting
mod PartLaws
pub mod Placing
mod SmallTrees
mod Widths
