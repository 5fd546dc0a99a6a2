mod Bounds
mod Rising
mod Indexes
mod Rests
mod Unless
pub mod Hashes
mod Tallies
mod Laying
mod Rows
mod Smaller
mod Found
mod Tables
mod Tallest
pub mod Split
mod Agreeing
mod News
mod Finding
mod Again
mod Lawful
mod TreesAgree
mod Placed
mod Placing
mod Reusing
mod Viewed
mod Limits
mod Saved
mod FirstTree
mod FreshTable
