-- Lemmas that the proofs of callers cite.
pub mod KeyBytes
pub mod GoodTables
