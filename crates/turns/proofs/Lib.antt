pub mod Division
pub mod Eachs
pub mod Deals
pub mod Crediting
pub mod Batches
pub mod Invariant
pub mod Unseen
pub mod Runs
