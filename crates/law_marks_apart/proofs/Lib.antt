pub mod Alike
pub mod EndKeys
pub mod LaneGaps
pub mod LaneMarks
pub mod Laws
pub mod SystemColumns
pub mod Uncut
