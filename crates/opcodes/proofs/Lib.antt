pub mod Opcodes
pub mod KindBytes
