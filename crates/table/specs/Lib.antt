pub mod Order
pub mod Keys
pub mod Rows
pub mod Events
pub mod Calls
pub mod View
