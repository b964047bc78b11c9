pub mod Laws
pub mod Meanings
pub mod Quotients
pub mod Table
