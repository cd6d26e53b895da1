-- What the exported functions write and answer.
pub mod Told
