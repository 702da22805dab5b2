pub mod Circle
pub mod Reaching
pub mod Seeing
pub mod Sounding
