pub mod Admitting
pub mod Delivering
pub mod Laws
pub mod Serving
pub mod Stations
