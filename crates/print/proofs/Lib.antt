pub mod Laws
pub mod Heads
pub mod Answers
