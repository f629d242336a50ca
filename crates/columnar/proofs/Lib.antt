pub mod CellRows
pub mod FilterRows
pub mod Ordered
