pub mod Rows
pub mod Verses
pub mod Words
