pub mod Figures
pub mod Parts
