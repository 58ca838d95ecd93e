-- What serves the proofs.
pub mod Shape
