pub mod Words
pub mod Write
