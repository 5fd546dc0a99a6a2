pub mod ClearOpens
pub mod MadeStores
pub mod Noting
pub mod OpenedImages
pub mod OpenedStores
pub mod RecordSteps
pub mod Walking
