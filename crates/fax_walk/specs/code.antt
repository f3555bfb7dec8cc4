-- What speaks of this code alone: what a walk still returns.
pub mod Opening
pub mod Stages
pub mod Walk
pub mod LongText
pub mod Pages
pub mod SparseBytes
pub mod StripsWriter
pub mod Output
pub mod Check
pub mod Sources
pub mod RowPlaces
pub mod SalvageItems
pub mod SalvagePage
pub mod SalvageFile
pub mod ShownRows
pub mod OnPaper
pub mod SalvagedRows
