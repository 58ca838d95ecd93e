-- What serves the proofs.
-- What stands in a sound table, and the audit's test of it: proofs/ shows that the tables which pass are those of crate `rules`.
pub mod Kept
pub mod Removals
pub mod Test
