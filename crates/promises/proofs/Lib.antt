pub mod Prelude
pub mod One
pub mod Decided
