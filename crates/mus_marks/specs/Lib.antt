pub mod Events
pub mod Silent
pub mod Staff
pub mod System
pub mod Tilt
