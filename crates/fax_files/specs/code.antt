-- What speaks of this code alone: how its types are seen.
pub mod Tiff
pub mod Fields
pub mod Chain
pub mod Writing
pub mod Pbm
pub mod Entries
pub mod Steps
pub mod PageParts
