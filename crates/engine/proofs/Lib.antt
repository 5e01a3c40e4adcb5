pub mod Demands
pub mod Loading
pub mod Entries
pub mod Unique
