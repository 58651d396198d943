pub mod Owning
pub mod Handles
pub mod Serving
