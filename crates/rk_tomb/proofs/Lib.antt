mod EdgeLemmas
mod IndexLemmas
mod KeyLemmas
mod NewestLemmas
mod PartLemmas
mod RunLemmas
mod SummaryLemmas
