pub mod Indexed
pub mod Standing
pub mod Parting
pub mod Bare
pub mod Leaves
pub mod Walking
pub mod Deep
