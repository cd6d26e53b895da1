-- What the theorems speak of, from the language up to the worked examples.
pub mod Language
pub mod Places
pub mod Links
pub mod Step
pub mod Moves
pub mod Completion
pub mod Distances
pub mod PlaceRows
pub mod Decide
pub mod Theorems
pub mod Examples
