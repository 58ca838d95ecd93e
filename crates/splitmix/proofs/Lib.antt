-- Laws that other crates cite.
pub mod Injective
