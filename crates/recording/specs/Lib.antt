pub mod Faults
pub mod Record
pub mod Lanes
pub mod Layout
pub mod Ranges
