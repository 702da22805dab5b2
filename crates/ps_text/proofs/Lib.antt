pub mod Letters
pub mod Numbers
pub mod Ranges
pub mod Shown
pub mod Signs
pub mod Taken
pub mod FoundMarks
