pub mod Lapses
pub mod Entries
