pub mod Faults
pub mod Room
pub mod Report
