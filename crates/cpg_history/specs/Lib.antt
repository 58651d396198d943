pub mod Histories
pub mod Members
pub mod Traces
