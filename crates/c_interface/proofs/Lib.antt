-- One file for each argument.
pub mod Bytes
