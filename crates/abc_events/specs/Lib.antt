pub mod Bars
pub mod Leaf
pub mod Leaves
pub mod Measures
pub mod Nesting
