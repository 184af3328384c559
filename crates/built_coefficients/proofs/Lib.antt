pub mod Fits
pub mod Stored
pub mod Nearest
