-- What speaks of this code alone: one step of a call.
pub mod CallSteps
pub mod BareStrips
pub mod StripRuns
pub mod AddedPages
pub mod CallerNumbers
pub mod StripParts
pub mod SalvagedRaster
pub mod SalvagedFrom
