pub mod Flushing
pub mod OnWorlds
pub mod Walking
