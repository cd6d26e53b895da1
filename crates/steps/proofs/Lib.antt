-- One file for each argument.
pub mod Any
pub mod Gathers
pub mod Follows
pub mod Leaves
pub mod Turns
pub mod Relation
pub mod Accepting
