mod Prefix
mod Values
mod FieldLaw
mod RunLaw
mod PathWords
mod PathLaw
mod PlaceLaw
mod HexLaw
mod HexField
mod ReferenceLaw
mod DateLaw
mod FormLaw
pub mod LineLaw
pub mod ReadLaw
mod Handing
mod HexDigits
mod PutLemmas
mod ReachLemmas
mod LoadLaw
