pub mod Puts
pub mod Decimal
pub mod Short
pub mod Unique
pub mod Writes
