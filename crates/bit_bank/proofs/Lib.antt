pub mod Parts
pub mod Stand
pub mod Puts
pub mod Join
pub mod Any
