pub mod Counting
pub mod OnPage
pub mod Pushed
pub mod Ranged
pub mod Rising
pub mod Shown
