pub mod Reports
pub mod Systems
pub mod Listing
pub mod Laws
pub mod Trials
