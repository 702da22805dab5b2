pub mod Again
pub mod Bars
pub mod Exact
pub mod Groups
pub mod Names
pub mod Numbers
pub mod Writing
