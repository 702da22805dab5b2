pub mod BeatLaws
pub mod Lengths
pub mod Orders
pub mod Places
pub mod RankLaws
pub mod Rising
