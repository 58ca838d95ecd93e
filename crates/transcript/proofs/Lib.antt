pub mod Saying
pub mod Tables
pub mod Turns
