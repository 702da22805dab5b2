pub mod Arcs
pub mod Events
pub mod Pieces
