pub mod Entries
pub mod Exact
pub mod Finding
pub mod Legal
pub mod Numbers
pub mod Reported
