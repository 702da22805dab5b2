pub mod Between
pub mod Bounds
pub mod Positions
pub mod Said
pub mod Singles
pub mod Taking
pub mod Written
