pub mod Telling
pub mod Through
pub mod Heads
pub mod Stepping
pub mod Forms
pub mod Alone
