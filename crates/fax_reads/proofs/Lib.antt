mod ExampleLemmas
mod FileGraph
mod TailGraph
mod ReportGraph
mod FileExampleLemmas
mod TailExampleLemmas
mod ReportExampleLemmas
mod HeadGraph
mod ImageGraph
mod ImageExampleLemmas
pub mod SampleExampleLemmas
pub mod CodedExampleLemmas
mod SalvageFileGraph
pub mod SalvageExampleLemmas
pub mod EolLemmas
