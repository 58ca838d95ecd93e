-- What a reader must believe.
pub mod Table
pub mod Changes
pub mod Ids
pub mod Answers
pub mod History
pub mod Asks
pub mod Keys
pub mod DrawsApart
pub mod Follows
pub mod Examples
-- What serves the proofs.
pub mod Runs
