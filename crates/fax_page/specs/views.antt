pub mod Reader
pub mod Writer
pub mod NextRow
pub mod Strip
pub mod Salvage
pub mod LeftUncounted
