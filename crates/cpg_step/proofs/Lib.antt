pub mod Beginnings
pub mod Doing
pub mod Gathered
pub mod LastNumbers
pub mod Lengths
pub mod Listing
pub mod NumberedLines
pub mod Whole
