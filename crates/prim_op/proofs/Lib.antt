pub mod Credits
pub mod Updates
pub mod Calls
pub mod Emitting
pub mod Merging
pub mod Converting
