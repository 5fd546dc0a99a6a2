pub mod Found
pub mod OpenFaults
pub mod Opening
pub mod Walk
