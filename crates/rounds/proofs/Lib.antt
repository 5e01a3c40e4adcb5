pub mod Rounds
pub mod Turns
pub mod Sweeps
pub mod Levels
pub mod Answers
