pub mod Order
pub mod Lists
pub mod Inserts
pub mod Moves
pub mod Puts
