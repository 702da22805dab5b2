pub mod Distances
pub mod Filling
pub mod Even
pub mod Parting
pub mod Stacking
pub mod Titles
