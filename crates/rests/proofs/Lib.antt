pub mod Spans
pub mod Taking
pub mod StmtKinds
