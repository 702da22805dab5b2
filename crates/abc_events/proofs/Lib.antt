pub mod BarRows
pub mod Fill
pub mod Heads
pub mod MeasureTrees
pub mod Single
pub mod Taken
