pub mod Callers
mod VarintLemmas
mod VarintWriting
