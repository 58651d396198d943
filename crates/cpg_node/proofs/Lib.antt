pub mod Keeping
pub mod Telling
pub mod Looking
