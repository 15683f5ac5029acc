pub mod Asked
pub mod Pages
pub mod Sheets
pub mod Printed
pub mod Bounds
pub mod Room
