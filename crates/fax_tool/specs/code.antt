-- What speaks of this code alone: its adapters and transfers, steps of printing, how it scans
-- words, and how it reads the entries of a command line.
pub mod Adapters
pub mod Transfers
pub mod Printing
pub mod Salvaging
pub mod ReportParts
pub mod Outcome
pub mod CommandEntries
pub mod CommandLine
pub mod Scan
pub mod Remembered
pub mod InputBuffer
