pub mod Below
pub mod Same
pub mod Names
