mod Bodies
mod Broken
mod Columns
mod Defaults
mod Draws
mod Each
mod Forced
mod GoodFields
mod Headers
mod Layouts
mod Moves
pub mod Outcomes
mod Parts
mod Said
mod Scores
mod Set
pub mod Spans
mod Stacked
mod Stages
