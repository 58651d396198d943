pub mod Bodies
pub mod Entries
pub mod Names
pub mod Ranges
pub mod Widths
pub mod Blocks
pub mod Ledgers
