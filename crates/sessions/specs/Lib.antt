-- The language of a text in rows of symbols, the calls, what each does, and what every list of them gives.
pub mod RowLanguage
pub mod Calls
pub mod Sessions
pub mod Runs
