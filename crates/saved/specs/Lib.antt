-- What a reader must believe.
pub mod Record
pub mod Length
pub mod OneRecord
pub mod Worked
-- What serves the proofs.
pub mod Reader
pub mod Fits
