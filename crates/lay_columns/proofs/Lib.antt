mod Boxes
mod Following
pub mod Facts
mod HeadKeys
pub mod Joined
mod Keyed
mod Keys
