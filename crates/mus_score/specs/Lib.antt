pub mod Even
pub mod Good
pub mod GoodScore
pub mod Limits
pub mod Plain
pub mod Seats
pub mod Times
pub mod Walks
