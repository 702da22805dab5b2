pub mod Adding
pub mod Fitting
pub mod Listing
pub mod Growing
