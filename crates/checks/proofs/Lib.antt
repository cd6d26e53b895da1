pub mod PlaceCounts
pub mod Budgets
pub mod Searches
