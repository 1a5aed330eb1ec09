mod KeyLemmas
mod RisingLemmas
mod TakenLemmas
mod OpenLemmas
mod LineLemmas
