pub mod TransferLemmas
mod NumberTextLemmas
mod clap
mod RunTextLemmas
mod RememberedLemmas
mod HeldLemmas
mod BeginLemmas
mod CommandEntryLemmas
mod EntryReadLemmas
mod GetterLemmas
mod CommandLineLemmas
mod WordExampleLemmas
mod RuleLemmas
mod UseLemmas
mod ParsedRowLemmas
mod WordReadLemmas
mod AgreeLemmas
mod SpellLemmas
mod ShapeLemmas
mod GrammarLemmas
mod WordAnswerLemmas
pub mod LineLemmas
pub mod StopLemmas
pub mod PrintLemmas
pub mod SalvageLineLemmas
pub mod TextLemmas
pub mod CommandLemmas
pub mod WholeLemmas
pub mod SalvagedOutputLemmas
pub mod CutRunLemmas
mod TextLawLemmas
