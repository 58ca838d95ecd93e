-- What a reader must believe.
pub mod Audit
-- What serves the proofs.
pub mod Pass
pub mod Reading
