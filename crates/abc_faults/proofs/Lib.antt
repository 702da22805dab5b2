pub mod Caps
pub mod Crowds
pub mod Firsts
pub mod Orders
pub mod Tuplets
pub mod Walks
