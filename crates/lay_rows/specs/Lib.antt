pub mod Badness
pub mod Costs
pub mod Parts
pub mod Tables
