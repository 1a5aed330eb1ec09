pub mod Faults
pub mod CallPlan
pub mod InMemory
pub mod Named
pub mod Parts
