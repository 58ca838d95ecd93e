-- Laws that the proofs of the functions cite.
pub mod Redraws
-- Theorems.
pub mod Tight
pub mod Bounds
mod Turns
