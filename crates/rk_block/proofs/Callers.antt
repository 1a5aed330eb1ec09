pub mod Grouping
-- Lemmas that the proofs of callers cite.
pub mod RestartLemmas
