mod Checks
pub mod Layouts
pub mod Lineups
pub mod Padded
pub mod Ranges
mod Tries
