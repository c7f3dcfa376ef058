pub mod Spells
mod Windows
pub mod Widths
mod Splices
mod Pastes
