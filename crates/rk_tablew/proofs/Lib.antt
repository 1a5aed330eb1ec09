pub mod Callers
mod DataLemmas
mod OrderLemmas
mod PartLemmas
mod TableLemmas
mod WritingLemmas
