pub mod Faults
pub mod Reading
