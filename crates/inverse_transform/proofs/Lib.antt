pub mod Constants
pub mod Rounding
pub mod Coefficients
pub mod AtMost
pub mod Narrow
