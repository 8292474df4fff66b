pub mod InputLaws
pub mod EndLaws
