-- One file for each argument.
pub mod NeverFull
pub mod Judging
