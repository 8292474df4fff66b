pub mod ListLaws
pub mod OrderLaws
pub mod SignedLaws
