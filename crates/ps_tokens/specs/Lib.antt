pub mod Reading
pub mod Spelling
pub mod Programs
pub mod OneToken
