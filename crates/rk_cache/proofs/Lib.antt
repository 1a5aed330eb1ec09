mod PieceLemmas
mod TrailerLemmas
mod ReadLemmas
mod KeptLemmas
mod KeyLemmas
mod StatusLemmas
