pub mod Picks
pub mod Tables
pub mod Arrays
