pub mod Sheet
pub mod Table
