pub mod TiffFiles
pub mod Pbm
