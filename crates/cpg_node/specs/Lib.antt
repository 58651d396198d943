pub mod Nodes
pub mod Calls
pub mod Answers
pub mod Cursors
pub mod Kept
pub mod Found
