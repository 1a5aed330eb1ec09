pub mod Callers
mod BoundLemmas
mod DataLemmas
mod RangeLemmas
mod StageLemmas
mod WalkLemmas
mod TailLemmas
mod RunLemmas
mod RowLemmas
mod LeftLemmas
