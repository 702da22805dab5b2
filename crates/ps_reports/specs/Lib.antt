pub mod PaintText
pub mod SheetText
