pub mod Later
pub mod Steps
pub mod Noting
pub mod Targeting
pub mod Knowledge
pub mod Walking
pub mod Several
pub mod Beginning
