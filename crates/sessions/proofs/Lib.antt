-- One file for each argument.
pub mod CodesBelow
pub mod CodeRows
pub mod Answers
pub mod Standing
pub mod Laying
pub mod RowsLaid
pub mod Runs
pub mod Answered
