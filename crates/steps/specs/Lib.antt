-- The step's set, and what the calls do to a bank.
pub mod StepSet
pub mod Gathered
pub mod Fronts
