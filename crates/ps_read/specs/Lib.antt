pub mod Lines
pub mod ReaderStates
pub mod Answers
pub mod Laws
pub mod Steps
pub mod Titles
