-- What a pattern may not have, what a search asks of a node, what the widths add to, and what the checks answer.
pub mod Faults
pub mod Searches
pub mod Widths
pub mod Checks
