pub mod Kernel
pub mod Row
pub mod Signed
