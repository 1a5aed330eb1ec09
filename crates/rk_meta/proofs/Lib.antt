mod BlockLemmas
mod DeltaLemmas
mod FooterLemmas
mod KeptLemmas
mod TrailerLemmas
mod WalkLemmas
