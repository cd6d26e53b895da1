-- The argument, from bottom to top: texts, derivations, where each part stops, the whole text, the exits of the readers.
pub mod Texts
pub mod Forward
pub mod Local
pub mod Firsts
pub mod Unique
pub mod UnitStops
pub mod ClassStops
pub mod BoundStops
pub mod PatternStops
pub mod Whole
pub mod Exits
pub mod Spelling
pub mod Roles
