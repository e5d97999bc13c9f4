pub mod Rows
pub mod Sums
pub mod Ranks
pub mod RankSets
