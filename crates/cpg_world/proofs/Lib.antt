pub mod Stepping
pub mod Sending
pub mod Hearing
pub mod Running
pub mod Beginning
