pub mod Judged
pub mod Verdicts
pub mod JudgeSeen
pub mod Heads
pub mod Judging
pub mod Why
