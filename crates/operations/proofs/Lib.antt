pub mod Credits
pub mod Folds
