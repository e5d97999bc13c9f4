mod Moved
mod Finished
