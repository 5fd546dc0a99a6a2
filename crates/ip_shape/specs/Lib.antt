pub mod Place
pub mod Shape
pub mod Loaded
pub mod Directory
pub mod Reading
pub mod Heights
pub mod PartNames
