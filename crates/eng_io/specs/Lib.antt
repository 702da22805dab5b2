pub mod Causes
pub mod Memories
pub mod Streams
