pub mod Contracts
pub mod Lending
pub mod Passing
pub mod Loading
pub mod Blocks
