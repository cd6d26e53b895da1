-- The marks that `measure` writes, and what its sweeps keep true of them.
pub mod Marks
pub mod Graphs
pub mod Search
