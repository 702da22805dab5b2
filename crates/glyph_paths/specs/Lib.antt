pub mod Rows
pub mod Outlines
pub mod Names
pub mod Bounds
pub mod Characters
pub mod Procedure
