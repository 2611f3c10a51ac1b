pub mod EntryFaults
pub mod DataEnds
pub mod Rooms
