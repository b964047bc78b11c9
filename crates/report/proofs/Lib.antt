pub mod Told
pub mod Idle
pub mod Closing
pub mod Playing
pub mod Made
