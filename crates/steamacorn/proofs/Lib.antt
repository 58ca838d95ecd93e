pub mod Telling
pub mod Tight
