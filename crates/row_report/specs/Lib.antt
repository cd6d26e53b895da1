pub mod Described
pub mod Reports
