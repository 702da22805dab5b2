pub mod Again
pub mod Plain
