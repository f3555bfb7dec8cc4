pub mod Runs
pub mod OneText
pub mod Words
pub mod WordExamples
