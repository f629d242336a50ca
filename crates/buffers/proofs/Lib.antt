pub mod AdmittedRows
pub mod Fronts
pub mod HeldCells
pub mod Packing
pub mod Passed
pub mod Reading
pub mod Rooms
