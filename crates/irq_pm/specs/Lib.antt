pub mod SleptBoard
pub mod SleepLog
pub mod Waking
pub mod Phases
pub mod Slept
pub mod Marked
pub mod Sleeping
pub mod SleptLines
