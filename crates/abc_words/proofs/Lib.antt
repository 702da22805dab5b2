pub mod FaultLaws
pub mod Lines
pub mod OwnLaws
pub mod Places
pub mod VerseLaws
pub mod WordLaws
