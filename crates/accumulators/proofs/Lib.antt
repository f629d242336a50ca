pub mod RowReads
pub mod NullSteps
pub mod Spreads
