-- Lemmas that the proofs of callers cite.
pub mod CommandLemmas
pub mod Cursors
pub mod DiskLemmas
pub mod FixedNumbers
pub mod InTurn
pub mod Leaving
pub mod Names
pub mod Readings
pub mod Tags
pub mod Varints
