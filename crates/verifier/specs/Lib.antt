pub mod Answers
pub mod Search
pub mod Memo
pub mod Least
pub mod Concluding
