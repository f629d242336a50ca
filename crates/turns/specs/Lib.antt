pub mod Lists
pub mod Turns
pub mod Book
pub mod Theorem
