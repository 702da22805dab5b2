pub mod Ending
pub mod LevelLaws
