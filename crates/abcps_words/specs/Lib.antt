pub mod Words
pub mod Adding
pub mod Command
pub mod Limits
pub mod Usage
