pub mod Bits
pub mod Widths
pub mod Told
