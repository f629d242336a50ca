pub mod Pairs
pub mod Tests
pub mod Walks
