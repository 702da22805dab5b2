pub mod Fitting
pub mod Under
pub mod Pages
pub mod Filled
