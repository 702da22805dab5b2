pub mod Headed
pub mod Blocks
