pub mod InTurn
pub mod Means
