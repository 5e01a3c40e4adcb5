-- General laws that the crates above cite.
pub mod Tests
pub mod Members
pub mod Maps
pub mod Stores
pub mod Parts
pub mod Zeros
pub mod Pigeon
pub mod Unique
