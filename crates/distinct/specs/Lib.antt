pub mod Members
pub mod Apart
pub mod Distinct
