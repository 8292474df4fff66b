pub mod Answers
pub mod Method
