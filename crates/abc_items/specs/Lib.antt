pub mod Body
pub mod Voices
pub mod Reading
pub mod Good
