pub mod ArcLaws
pub mod BareLaws
pub mod EventLaws
pub mod HeadLaws
pub mod PieceLaws
pub mod RuleLaws
pub mod OrderLaws
