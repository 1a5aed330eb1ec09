pub mod Fed
pub mod Runs
pub mod Walks
pub mod Founds
pub mod Blocks
pub mod Ends
pub mod Parts
pub mod Low
