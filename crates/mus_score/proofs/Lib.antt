pub mod Bounds
pub mod Even
pub mod Scores
