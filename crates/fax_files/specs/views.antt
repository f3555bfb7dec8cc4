pub mod Chain
pub mod Fields
pub mod Pbm
pub mod Tiff
pub mod Writing
pub mod Page
pub mod PagesSoFar
