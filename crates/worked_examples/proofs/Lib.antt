-- When a text is accepted by a test, the derivations of the texts, those that are refused, and the table.
pub mod Accepting
pub mod Derivations
pub mod Refusing
pub mod Examples
