pub mod Beats
pub mod Keys
pub mod Onsets
pub mod Order
pub mod Ranks
