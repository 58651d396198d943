pub mod Entering
pub mod Groups
pub mod Heard
pub mod Places
pub mod Standing
pub mod Telling
pub mod ConnectionLogs
