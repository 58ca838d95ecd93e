-- What a reader must believe.
pub mod Printing
pub mod Transcript
pub mod Written
-- What serves the proofs.
pub mod Replies
pub mod Tables
