-- The pair of a front that is nearest, the way from it, and what is answered of need and hint.
pub mod Nearest
pub mod Towards
pub mod Answers
