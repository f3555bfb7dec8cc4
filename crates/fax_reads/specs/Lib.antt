pub mod Files
pub mod TailReading
pub mod Reports
pub mod Images
pub mod FileSalvage
pub mod laws
