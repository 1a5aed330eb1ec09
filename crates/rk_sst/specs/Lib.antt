pub mod Errors
pub mod Seen
pub mod Rising
pub mod Taken
pub mod Opened
pub mod Lines
