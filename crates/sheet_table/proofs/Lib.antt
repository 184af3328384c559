pub mod Room
pub mod Placed
pub mod Shown
