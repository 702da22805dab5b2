pub mod Books
pub mod Forward
pub mod Good
pub mod Kinds
pub mod Lines
pub mod Results
