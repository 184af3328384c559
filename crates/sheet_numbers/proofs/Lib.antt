pub mod Optional
pub mod OneNumber
pub mod ManyNumbers
pub mod Lined
pub mod Begins
