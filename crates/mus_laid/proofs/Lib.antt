pub mod ByColumns
