pub mod Answers
pub mod Records
pub mod Calls
pub mod Walks
