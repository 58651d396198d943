pub mod Making
pub mod Noted
pub mod Seats
pub mod Settling
pub mod Words
