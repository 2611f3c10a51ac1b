pub mod Numbering
pub mod Counting
pub mod LocalRooms
pub mod Variables
pub mod ProcParts
pub mod UnitParts
