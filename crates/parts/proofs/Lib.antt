pub mod Sized
pub mod One
pub mod Lending
