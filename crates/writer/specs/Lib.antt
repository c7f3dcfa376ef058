pub mod Faults
pub mod Laying
pub mod Writing
