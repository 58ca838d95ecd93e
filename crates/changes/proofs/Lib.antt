pub mod Ready
pub mod Told
pub mod Accepted
pub mod Tight
