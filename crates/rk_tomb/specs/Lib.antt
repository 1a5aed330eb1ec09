pub mod Bounds
pub mod Index
pub mod Spans
pub mod Weights
