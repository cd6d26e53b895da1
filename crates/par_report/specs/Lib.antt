-- What is answered of a pattern and a row.
pub mod Pars
