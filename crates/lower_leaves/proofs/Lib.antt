pub mod Copying
pub mod LiteralForms
pub mod Collecting
pub mod Runs
pub mod LambdaState
pub mod Lambdas
pub mod Quoting
