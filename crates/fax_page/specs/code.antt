-- What speaks of this code alone: what stands before a row, how far a strip is read or written, and
-- rows that are lent.
pub mod Starts
pub mod LineStops
pub mod Reader
pub mod Writer
pub mod Ends
pub mod Notes
pub mod Salvage
pub mod LeftUncounted
