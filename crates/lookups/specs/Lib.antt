-- What a reader must believe.
-- What is promised of finding a key, in the words of document 01 and the demands.
pub mod EveryTable
pub mod BothRules
pub mod InUse
pub mod FewDraws
pub mod FewFollows
pub mod Stay
