pub mod Alike
pub mod Drawn
pub mod Plans
pub mod Reading
pub mod Signs
pub mod Trees
