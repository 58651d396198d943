pub mod Clusters
pub mod Links
pub mod Sessions
pub mod Submitting
pub mod Taking
