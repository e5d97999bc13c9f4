mod Trying
mod Numbers
mod FirstRows
mod OneLine
mod Printable
mod Eights
mod Lines
mod WholeLog
mod NewJudges
pub mod OneUndue
