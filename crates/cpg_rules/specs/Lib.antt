pub mod Decision
pub mod Tables
