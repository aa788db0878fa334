pub mod Places
pub mod Judge
pub mod ExprAt
pub mod StmtAt
