pub mod PathLaws
pub mod MemoLaws
pub mod SearchLaws
pub mod FeasibleLaws
pub mod LeastLaws
pub mod AnswerLaws
pub mod Linking
