mod Limits
mod Cutting
mod Skipping
mod WholeInput
mod OneLog
mod OneVerdict
mod OneAnswer
pub mod Reasons
