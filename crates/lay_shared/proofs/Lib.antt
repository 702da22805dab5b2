pub mod DrawnLaws
mod EachLaws
pub mod PlanLaws
mod SignLaws
mod TreeLaws
