pub mod Naming
pub mod Laid
