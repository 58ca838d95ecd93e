-- What serves the proofs.
pub mod Steps
