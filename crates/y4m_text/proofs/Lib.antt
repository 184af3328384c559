pub mod ReadBack
pub mod Codes
pub mod Texts
