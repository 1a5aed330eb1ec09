pub mod Writable
pub mod WritableTables
