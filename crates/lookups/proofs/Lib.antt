-- Laws.
pub mod Walks
pub mod Leads
pub mod Finds
-- Theorems.
pub mod EveryTable
pub mod BothRules
pub mod InUse
pub mod FewDraws
pub mod FewFollows
pub mod Stay
