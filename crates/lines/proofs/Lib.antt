pub mod Text
pub mod Contract
pub mod Unique
pub mod Rows
pub mod Images
pub mod Injective
pub mod Example
