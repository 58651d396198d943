pub mod Lines
pub mod Listed
pub mod Names
pub mod Sections
pub mod Steps
