pub mod Near
pub mod Points
pub mod Tokens
pub mod State
pub mod Operators
pub mod Steps
