mod ChildSteps
mod Finished
