pub mod Distances
pub mod PaintOf
pub mod Laws
