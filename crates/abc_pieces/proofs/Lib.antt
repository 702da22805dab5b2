pub mod BarLaws
pub mod Classes
pub mod PieceReaches
pub mod PieceReader
pub mod PieceTakes
pub mod PieceText
pub mod TupletLaws
