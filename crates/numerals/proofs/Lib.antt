pub mod KindBytes
