pub mod Ranked
pub mod Reported
