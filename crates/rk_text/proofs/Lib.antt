mod BatchLemmas
mod EditLemmas
mod QuoteLemmas
mod Shown
