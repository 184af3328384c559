pub mod Rows
pub mod Held
pub mod Told
pub mod Painting
