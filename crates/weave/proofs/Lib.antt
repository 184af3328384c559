pub mod Asked
pub mod Restored
