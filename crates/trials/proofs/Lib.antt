pub mod Drawing
pub mod Trapping
