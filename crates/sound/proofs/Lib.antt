-- Laws.
pub mod Fresh
pub mod Written
pub mod KeptOut
pub mod IdsSet
pub mod Histories
-- Theorems.
pub mod Made
pub mod Passes
pub mod Audit
pub mod Steps
pub mod Opened
pub mod Reached
pub mod Sound
