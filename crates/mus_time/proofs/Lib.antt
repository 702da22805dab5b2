pub mod Called
pub mod Counts
pub mod Few
pub mod Goods
