pub mod Callers
mod BuildLemmas
mod EntryLemmas
mod ReadLemmas
mod StepLemmas
mod WalkLemmas
mod TestedLemmas
