-- What a reader must believe.
pub mod One
pub mod Decides
