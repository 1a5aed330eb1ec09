pub mod Building
pub mod Parts
pub mod Raw
pub mod Read
pub mod Restarts
pub mod Seen
pub mod Tested
pub mod Walked
