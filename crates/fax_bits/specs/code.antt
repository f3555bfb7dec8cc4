-- What speaks of this code alone: how its types are seen, and computed tests of the tables.
pub mod Source
pub mod Sink
pub mod TableTests
pub mod TableLaws
pub mod Window
pub mod Pairs
pub mod BitsAhead
pub mod Codes
pub mod CodeIndexes
pub mod LookUp
