pub mod GoodLaws
pub mod Reaches
pub mod SoundLaws
pub mod Walks
