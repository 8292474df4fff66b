pub mod BitLaws
pub mod SetLaws
pub mod CountLaws
pub mod Linking
