-- How clap reads the words of any flat command.
pub mod Flat
pub mod FlatLemmas
