pub mod NumberLaws
pub mod Meanings
pub mod VariableNames
pub mod Procs
pub mod Shared
