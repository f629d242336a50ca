pub mod Memory
pub mod ReadBack
pub mod Places
