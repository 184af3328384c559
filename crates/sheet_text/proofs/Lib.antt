pub mod PlaneLines
pub mod Answers
pub mod Lengths
