pub mod Pairs
pub mod Raises
pub mod Meaning
