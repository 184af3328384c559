pub mod Most
pub mod Samples
