pub mod Admitting
pub mod Inboxes
pub mod Sessions
pub mod Steps
