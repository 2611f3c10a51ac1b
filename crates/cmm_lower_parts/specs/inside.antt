pub mod Rooms
pub mod Numbers
pub mod Passing
