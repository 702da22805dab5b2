pub mod Covering
pub mod Facts
pub mod Gaps
pub mod Keyed
pub mod Lone
pub mod Rows
pub mod Widening
