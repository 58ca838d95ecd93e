pub mod Words
pub mod Listing
pub mod KnownLines
pub mod Tight
pub mod Standing
pub mod LinesOf
