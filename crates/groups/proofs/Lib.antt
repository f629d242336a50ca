pub mod Accepting
pub mod EachNamed
pub mod Fills
pub mod InLines
pub mod Marking
pub mod NamedGroups
