pub mod Listed
pub mod Marked
pub mod Spans
pub mod NullCounts
pub mod Shown
pub mod Worked
