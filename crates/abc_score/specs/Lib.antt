pub mod Build
pub mod Faults
pub mod Judged
pub mod Order
pub mod Score
pub mod Steps
pub mod Voices
