pub mod Counting
pub mod Cuts
pub mod EachMark
pub mod Keys
