-- What a reader must believe.
pub mod Calls
pub mod Accepted
