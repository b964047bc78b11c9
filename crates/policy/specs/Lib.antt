pub mod Choices
pub mod Orders
pub mod Laws
pub mod Pins
pub mod Chosen
