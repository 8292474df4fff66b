pub mod Counting
pub mod Framing
pub mod Filling
pub mod Feeding
