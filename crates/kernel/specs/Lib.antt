pub mod Kernels
pub mod Ordered
pub mod Lent
