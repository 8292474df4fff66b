pub mod TraceLaws
pub mod ShownLaws
pub mod CheckLaws
pub mod Linking
