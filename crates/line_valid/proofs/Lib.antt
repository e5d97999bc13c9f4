mod FitsIsValid
pub mod FitsRuns
