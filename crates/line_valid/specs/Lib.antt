pub mod Deciding
pub mod DecidingRuns
