pub mod NumberLaws
pub mod Leaving
pub mod CallLaws
pub mod ReadLaws
pub mod Linking
