pub mod Table
pub mod Offers
pub mod Sweep
