pub mod Characters
pub mod Syllables
pub mod Singing
