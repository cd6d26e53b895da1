pub mod Alphabets
pub mod Colours
