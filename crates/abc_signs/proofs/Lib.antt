pub mod Drawn
pub mod Idle
pub mod Rests
