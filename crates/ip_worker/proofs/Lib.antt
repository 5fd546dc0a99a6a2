mod Gathered
mod Copying
mod Ending
mod Opening
mod RowSums
mod Finding
mod Collecting
mod Stages
pub mod Serving
