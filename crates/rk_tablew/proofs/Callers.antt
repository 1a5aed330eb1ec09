-- Lemmas that the proofs of callers cite.
pub mod Order
