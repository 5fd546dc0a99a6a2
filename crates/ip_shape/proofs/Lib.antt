mod Bits
pub mod ByEntries
mod Digests
mod Edits
mod Entering
pub mod Entries
mod Gathering
pub mod Heights
mod InodeRead
pub mod LeafRead
mod Made
pub mod Members
mod Needs
mod OneShape
mod Onward
pub mod PartNames
mod Partly
mod Shapes
pub mod Steps
pub mod Ways
