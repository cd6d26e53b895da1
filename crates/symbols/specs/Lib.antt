pub mod Answers
pub mod Letters
pub mod Tiles
