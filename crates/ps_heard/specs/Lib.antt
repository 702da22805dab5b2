pub mod Columns
pub mod Ear
pub mod Filling
pub mod Hearing
pub mod HeardText
pub mod Roles
pub mod Tunes
