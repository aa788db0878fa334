pub mod Spelling
pub mod Finding
pub mod Indexing
pub mod TableIndex
pub mod Pasting
pub mod Calling
