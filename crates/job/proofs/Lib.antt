pub mod Accepted
pub mod Laws
pub mod Taken
pub mod Unique
mod Examples
