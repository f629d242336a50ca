pub mod Calls
pub mod Words
pub mod Views
pub mod Table
