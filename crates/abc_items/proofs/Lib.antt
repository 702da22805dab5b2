pub mod Laws
pub mod MusicLaws
pub mod OneBody
