pub mod Before
pub mod Fields
pub mod Read
pub mod Writing
