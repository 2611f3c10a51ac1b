pub mod Offsets
pub mod Framing
pub mod Members
pub mod Touching
pub mod Living
pub mod SlotOrder
pub mod Peeling
pub mod Left
pub mod Coloured
pub mod Classing
pub mod Sharing
pub mod Suiting
pub mod Allocating
pub mod Placing
pub mod Exits
pub mod Cutting
pub mod Beginning
pub mod Compiling
pub mod Running
pub mod Placed
pub mod Together
mod SmallRows
mod RegisterRows
