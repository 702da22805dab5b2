pub mod Books
mod Columns
mod Seated
mod Staves
mod Telling
mod Tunes
