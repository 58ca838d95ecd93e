-- Laws of records one after the other, and of the seats in use.
pub mod Each
pub mod Ranks
-- What stands in a record, and that it reads back.
pub mod Holds
pub mod Length
pub mod Back
pub mod OneRecord
pub mod Exact
-- Document 01's example.
pub mod Worked
