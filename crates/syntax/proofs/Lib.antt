-- Places and widths added up, what an accepted tree has, and that a text has at most one refusal.
pub mod PlaceCounts
pub mod Sums
pub mod Spelled
pub mod Formed
pub mod Numbers
pub mod Once
pub mod Refused
