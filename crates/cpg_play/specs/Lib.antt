pub mod Checking
pub mod Walking
pub mod Worlds
pub mod Deeds
pub mod Playing
