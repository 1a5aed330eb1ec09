pub mod Delta
pub mod Walk
