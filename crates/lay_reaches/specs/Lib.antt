pub mod Column
pub mod Columns
pub mod Distances
pub mod Lanes
pub mod Naturals
pub mod Reaches
pub mod Stands
pub mod Widened
