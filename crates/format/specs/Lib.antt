pub mod Syntax
pub mod Bits
pub mod Truth
pub mod Format
pub mod Standing
