pub mod Lines
pub mod Header
pub mod Read
