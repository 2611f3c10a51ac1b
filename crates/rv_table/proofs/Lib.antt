pub mod Cutting
pub mod Decodes
pub mod EffectFacts
pub mod Encodes
pub mod Immediates
pub mod MemoryFacts
pub mod Orders
pub mod RegisterFacts
pub mod RowBounds
pub mod Running
pub mod Shared
pub mod Soundness
pub mod Standing
pub mod Stops
pub mod WordFacts
mod WorkedRows
