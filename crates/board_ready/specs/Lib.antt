pub mod First
pub mod Seen
pub mod Ready
pub mod Sets
pub mod Kept
pub mod Inside
