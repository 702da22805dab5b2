pub mod Breaking
pub mod Table
pub mod Answers
pub mod Rows
pub mod Spans
