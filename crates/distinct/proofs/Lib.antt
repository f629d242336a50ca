pub mod Members
pub mod Laws
pub mod Shown
