pub mod Ranks
pub mod Shown
pub mod Texts
pub mod Titles
