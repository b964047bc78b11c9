pub mod Waiting
pub mod Ties
pub mod Fits
pub mod Search
pub mod Events
pub mod Sums
pub mod Picking
pub mod Turns
