pub mod Values
pub mod Known
