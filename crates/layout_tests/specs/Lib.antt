pub mod Table
pub mod Meeting
pub mod StoppedLength
