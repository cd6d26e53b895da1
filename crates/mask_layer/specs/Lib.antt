pub mod Places
pub mod Means
pub mod Facts
