-- What the table tells of a place, and what is said of an accepted pattern.
pub mod Told
pub mod Describes
