pub mod Clear
pub mod Columns
pub mod Listened
pub mod Noted
pub mod Sounds
