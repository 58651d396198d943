pub mod Arrows
pub mod Drawing
pub mod Excerpts
pub mod Misses
pub mod Passed
pub mod Rows
pub mod Sets
pub mod Steps
