pub mod Staff
pub mod Voice
pub mod Words
