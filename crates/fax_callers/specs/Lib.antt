pub mod Trits
