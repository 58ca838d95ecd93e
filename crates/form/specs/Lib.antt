-- What a reader must believe.
pub mod Form
-- What serves the proofs.
pub mod Tests
pub mod Heads
