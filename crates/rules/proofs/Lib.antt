-- Theorems.
pub mod WorkedExamples
pub mod Undo
pub mod Follows
pub mod DrawsApart
-- Laws of lists, runs, parts and openings.
pub mod Lists
pub mod Parts
pub mod Words
pub mod Openings
-- Laws of keys.
pub mod Walks
-- Laws of ids and answers.
pub mod Ids
pub mod Occasions
pub mod Accepts
pub mod Numbers
pub mod One
pub mod Options
