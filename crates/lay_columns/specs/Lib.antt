pub mod Law
pub mod Measures
