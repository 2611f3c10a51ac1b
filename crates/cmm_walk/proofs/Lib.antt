pub mod Tables
pub mod Places
pub mod Points
pub mod Variables
pub mod Steps
pub mod Writes
pub mod VariableTexts
pub mod WalkLaws
mod WalkRows
pub mod Shared
