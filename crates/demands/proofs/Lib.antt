-- Laws.
pub mod Stack
-- Theorems.
pub mod Audit
pub mod Accepts
pub mod Undo
pub mod Histories
pub mod Keys
pub mod Again
pub mod SeatZero
pub mod Hollow
