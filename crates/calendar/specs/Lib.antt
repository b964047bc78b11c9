pub mod Orders
pub mod Queues
pub mod Bags
pub mod Places
