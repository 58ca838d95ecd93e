-- What serves the proofs.
pub mod Layout
