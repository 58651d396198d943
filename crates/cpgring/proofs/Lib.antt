pub mod Entered
pub mod Paths
pub mod LastWords
