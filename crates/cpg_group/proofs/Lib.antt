mod Passed
mod Shown
mod Kept
pub mod Placed
mod Entered
mod Applying
mod Beside
mod Between
mod Stops
mod Latest
pub mod Counted
mod Hearing
