-- The language of a text, and which texts are refused.
pub mod TextLanguage
pub mod Refuses
