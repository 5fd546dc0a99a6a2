pub mod Besides
pub mod Steps
pub mod Turning
