pub mod Linking
pub mod Exports
pub mod Theorem
