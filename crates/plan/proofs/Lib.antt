pub mod Fields
mod Bounds
mod Named
mod Complete
mod Steps
pub mod Limits
mod Gathered
