pub mod Fields
pub mod Meaning
pub mod CallBytes
pub mod AnswerBytes
pub mod Files
