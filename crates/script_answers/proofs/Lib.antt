pub mod Answered
pub mod MadeText
pub mod Once
pub mod LawsLaws
pub mod Texts
