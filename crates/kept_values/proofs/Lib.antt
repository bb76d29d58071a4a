pub mod Brought
pub mod CountLemmas
pub mod EntryLemmas
pub mod Flags
pub mod IndexLemmas
pub mod KeyLemmas
pub mod NumberLemmas
pub mod RowLemmas
