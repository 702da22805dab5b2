pub mod Changed
pub mod MovedGood
