pub mod Listed
pub mod Means
pub mod Facts
