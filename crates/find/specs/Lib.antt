-- What a reader must believe.
pub mod Find
pub mod Bounds
-- What serves the proofs.
pub mod Steps
