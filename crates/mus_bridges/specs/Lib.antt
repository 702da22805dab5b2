pub mod Arcs
pub mod Beams
pub mod Bridges
pub mod Ends
pub mod Levels
