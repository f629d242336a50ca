pub mod Primitive
pub mod Rules
pub mod Orders
pub mod Combining
pub mod Shown
