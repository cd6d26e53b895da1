pub mod Row
pub mod Join
pub mod Means
pub mod Facts
