pub mod Backwards
pub mod GoodLaws
pub mod LineLaws
pub mod Stages
