mod BuilderLemmas
mod CountLemmas
mod PartLemmas
mod ReadLemmas
mod Shorter
mod ViewLemmas
mod WrittenParts
