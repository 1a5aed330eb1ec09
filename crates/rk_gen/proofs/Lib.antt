pub mod DirectoryLemmas
pub mod EditLemmas
pub mod PutLemmas
pub mod RisingKeys
pub mod TableLemmas
