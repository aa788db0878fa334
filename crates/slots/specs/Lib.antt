pub mod Slotted
pub mod Props
pub mod Gathered
pub mod Held
pub mod HeldProps
pub mod Captured
pub mod Order
pub mod Steps
