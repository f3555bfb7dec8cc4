pub mod Codes
pub mod Sink
pub mod Source
pub mod Pairs
pub mod Verticals
