pub mod EarLaws
mod FillingLaws
pub mod Places
