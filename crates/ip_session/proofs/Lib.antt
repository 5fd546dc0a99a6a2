pub mod SessionLemmas
pub mod Referring
pub mod Seeing
pub mod NameSizes
mod Reading
pub mod Changing
mod Damage
pub mod SessionGoes
pub mod DurableGoes
pub mod Committing
pub mod BranchGoes
pub mod ReadGoes
pub mod Beginning
pub mod Placing
mod ClearGoes
pub mod MergeGoes
mod Asking
mod StartGoes
mod CancelGoes
mod FinishGoes
mod Wanted
mod FinishAsked
mod Running
