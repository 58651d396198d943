pub mod FilterSteps
pub mod Filtering
pub mod Filters
pub mod Gathering
pub mod Inboxes
pub mod Judging
pub mod Scripts
pub mod Texts
