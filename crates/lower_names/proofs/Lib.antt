pub mod Symbols
pub mod Callees
pub mod Strings
pub mod Naming
pub mod Numbering
pub mod MadeNames
pub mod Midway
pub mod Beginnings
