-- What a reader must believe.
pub mod Decimal
pub mod Opposites
-- What serves the proofs.
pub mod Places
