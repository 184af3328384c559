pub mod Rows
pub mod Request
pub mod Plane
pub mod Lent
