pub mod Breakings
pub mod Layout
pub mod Measured
pub mod Measures
pub mod Spans
pub mod Systems
