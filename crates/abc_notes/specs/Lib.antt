pub mod Chords
pub mod Decorations
pub mod Graces
pub mod Items
pub mod Lengths
pub mod Notes
pub mod Parts
pub mod Runs
