-- One file for each argument.
pub mod Betters
pub mod Masks
pub mod Targets
pub mod Numbers
pub mod Writes
pub mod Sweeps
pub mod Closing
pub mod Trees
pub mod Once
pub mod Chunks
