pub mod Fronts
pub mod Digits
pub mod Bodies
pub mod Shorter
pub mod Strings
pub mod Spellings
pub mod Words
pub mod Programs
mod OneToken
