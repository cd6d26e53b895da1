-- One file for each argument.
pub mod LeastMarks
pub mod Leading
pub mod Codes
pub mod Answers
