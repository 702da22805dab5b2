pub mod Boxes
pub mod Distances
pub mod Printed
pub mod Ranked
pub mod Shapes
