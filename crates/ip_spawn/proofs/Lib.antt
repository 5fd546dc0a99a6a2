mod Sizes
pub mod Rising
