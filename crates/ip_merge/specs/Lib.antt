pub mod Answering
pub mod Closures
pub mod Lines
pub mod Rules
