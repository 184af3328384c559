pub mod Sheet
pub mod Answer
