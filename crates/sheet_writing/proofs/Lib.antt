pub mod Write
pub mod Digits
