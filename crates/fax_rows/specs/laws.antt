pub mod Rows
pub mod Packed
