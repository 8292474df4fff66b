pub mod Memory
pub mod Tables
pub mod Filling
