pub mod Exact
pub mod Answers
pub mod Told
pub mod Tight
