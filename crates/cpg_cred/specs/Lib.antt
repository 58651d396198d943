pub mod Admission
pub mod Hashes
pub mod Listed
pub mod Shown
