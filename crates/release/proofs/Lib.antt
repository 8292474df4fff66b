pub mod FramingLaws
pub mod FillLaws
pub mod CountLaws
pub mod StreamLaws
pub mod FeedLaws
pub mod FigureLaws
pub mod SizeLaws
pub mod Linking
