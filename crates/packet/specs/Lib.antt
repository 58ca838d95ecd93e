-- What a reader must believe.
pub mod Packet
pub mod Key
pub mod Fragments
pub mod Counts
pub mod Worked
