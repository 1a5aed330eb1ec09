pub mod Items
pub mod Fragments
pub mod Blocks
pub mod Left
pub mod Steps
pub mod Walk
pub mod Writing
