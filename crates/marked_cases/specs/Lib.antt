pub mod Sheet
pub mod Streams
pub mod Marked
