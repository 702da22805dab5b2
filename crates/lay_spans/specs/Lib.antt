pub mod Columns
pub mod Forced
pub mod SpanList
pub mod Rows
pub mod Single
