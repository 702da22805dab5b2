pub mod Columns
pub mod Frame
pub mod Voices
