pub mod Bits
pub mod Reading
pub mod Codes
pub mod Tables
pub mod Written
pub mod code
pub mod laws
pub mod views
