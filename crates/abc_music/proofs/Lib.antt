pub mod Prefixes
pub mod GoodLaws
pub mod Line
pub mod OnePrefix
