mod Cutting
mod Taking
mod Digits
mod Saying
mod CallKinds
mod EachKind
pub mod RowCutting
pub mod Telling
mod Places
mod Placing
