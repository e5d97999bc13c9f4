pub mod Parts
pub mod Checked
pub mod AnswerText
pub mod Ends
