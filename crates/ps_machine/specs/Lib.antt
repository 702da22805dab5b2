pub mod Naming
pub mod Pending
pub mod Drawing
pub mod Pens
pub mod Doing
pub mod Nexts
pub mod OneAnswer
pub mod Sheets
