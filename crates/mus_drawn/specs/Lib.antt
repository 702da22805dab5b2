pub mod Drawn
pub mod Good
pub mod Hearing
pub mod Sounds
