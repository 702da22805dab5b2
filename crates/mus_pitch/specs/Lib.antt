pub mod Alteration
pub mod Circle
pub mod Signs
pub mod Steps
