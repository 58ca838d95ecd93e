-- What a reader must believe.
-- Demand 2: the audit, and what is accepted.
pub mod Audit
pub mod Accepts
-- Demand 3, sentence by sentence.
pub mod Undo
pub mod Histories
pub mod Keys
pub mod Again
-- Request 3/13.
pub mod SeatZero
-- Hollow versions.
pub mod Hollow
