pub mod Numbered
pub mod Unique
