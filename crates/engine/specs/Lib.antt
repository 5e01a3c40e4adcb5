pub mod Demands
pub mod Answers
pub mod Accepted
