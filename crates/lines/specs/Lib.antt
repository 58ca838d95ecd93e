-- What a reader must believe.
pub mod Lines
pub mod LinesOf
pub mod KnownLines
-- What serves the proofs.
pub mod Readings
