pub mod Signs
pub mod Waits
pub mod Stored
