mod Coming
mod Given
mod Finished
mod Told
mod Fresh
mod Rows
