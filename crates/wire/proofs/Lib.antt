pub mod Wide
pub mod Cuts
pub mod Numbers
pub mod CallLaws
pub mod AnswerLaws
pub mod FileLaws
