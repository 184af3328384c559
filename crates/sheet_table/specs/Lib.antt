pub mod Table
pub mod Shown
pub mod Placed
