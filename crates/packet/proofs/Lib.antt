pub mod Fits
pub mod Told
pub mod Tight
pub mod Fragments
pub mod Counts
pub mod Worked
