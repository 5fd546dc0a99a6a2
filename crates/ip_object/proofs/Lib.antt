mod Listing
mod Children
mod PutLemmas
mod Patched
mod Hashed
mod Spelled
pub mod Sizes
