mod Numbers
pub mod OneCall
mod Plain
mod Positionals
mod Taking
