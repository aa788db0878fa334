pub mod Walking
pub mod ExprKinds
pub mod StmtKinds
