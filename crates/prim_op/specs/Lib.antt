pub mod Kept
pub mod Means
