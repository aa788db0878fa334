pub mod Calls
pub mod Shortcut
pub mod Words
pub mod KindBytes
