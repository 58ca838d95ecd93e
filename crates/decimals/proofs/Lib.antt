pub mod Digits
pub mod Opposites
pub mod Stored
pub mod One
