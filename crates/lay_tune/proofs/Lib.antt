pub mod Breakings
pub mod Called
pub mod Joins
pub mod Open
pub mod RisingKeys
pub mod Rows
pub mod StaffCounts
pub mod Within
