pub mod Bars
pub mod Forms
pub mod Reading
pub mod Tuplets
