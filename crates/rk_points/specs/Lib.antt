pub mod Aims
pub mod Courses
pub mod Descents
pub mod Lists
pub mod Tallies
pub mod Walks
