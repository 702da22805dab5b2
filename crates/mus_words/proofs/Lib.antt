pub mod EachWord
pub mod Far
