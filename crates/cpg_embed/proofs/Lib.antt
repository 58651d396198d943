pub mod Hearing
pub mod Faults
pub mod Answering
pub mod Turning
pub mod Standing
