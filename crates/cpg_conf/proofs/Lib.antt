pub mod Pairs
pub mod Passing
pub mod Plain
pub mod Rising
pub mod Values
