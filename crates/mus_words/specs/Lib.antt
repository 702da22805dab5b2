pub mod Arcs
pub mod Syllables
pub mod Texts
pub mod Words
