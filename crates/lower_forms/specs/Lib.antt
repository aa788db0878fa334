pub mod Lowerable
pub mod Elements
pub mod Assigned
pub mod Lowering
