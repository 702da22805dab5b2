mod Chords
pub mod ClearVoices
mod Columns
pub mod Listening
mod Openings
pub mod Pitches
mod Reaching
mod Ties
mod Voices
