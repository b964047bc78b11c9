pub mod Order
pub mod Same
pub mod Lapses
pub mod Sums
