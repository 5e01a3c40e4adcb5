pub mod Puts
pub mod Reads
pub mod Writes
pub mod Listing
