mod Bridged
mod Columned
mod Drawings
mod Forms
mod Noting
mod Placed
mod Signed
pub mod Telling
mod Tied
