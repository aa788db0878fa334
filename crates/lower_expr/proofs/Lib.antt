pub mod Several
pub mod Bodies
