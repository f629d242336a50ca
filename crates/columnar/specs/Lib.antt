pub mod Packed
pub mod Cells
pub mod Rows
pub mod Lists
pub mod Refusals
pub mod Views
pub mod Packings
pub mod Columns
