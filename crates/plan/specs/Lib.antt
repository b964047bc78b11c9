pub mod Bits
pub mod Headers
pub mod Records
pub mod Plans
