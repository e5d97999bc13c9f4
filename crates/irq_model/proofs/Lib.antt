mod RowWords
mod EdgeRows
mod LevelRows
mod ThreadRows
mod DriverRows
mod ValidRows
pub mod Lists
pub mod Lowest
pub mod CallRows
pub mod RunRows
pub mod Same
pub mod Somewhere
pub mod LinkSteps
pub mod EdgeSteps
pub mod AskSteps
pub mod DueSteps
pub mod MutexSteps
pub mod SignalSteps
pub mod RoundSteps
pub mod MaskSteps
pub mod WaitSteps
pub mod DepthSteps
pub mod ListSteps
