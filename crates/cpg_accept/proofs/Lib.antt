pub mod Answering
pub mod Cutting
pub mod Heads
pub mod Stopping
