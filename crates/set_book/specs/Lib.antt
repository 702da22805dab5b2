pub mod Outcomes
pub mod Single
