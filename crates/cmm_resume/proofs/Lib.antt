pub mod Restoring
pub mod Fitting
pub mod Putting
pub mod SetVariables
pub mod Answering
pub mod Tables
pub mod Unwinds
pub mod ReturnLaws
pub mod CutLaws
pub mod PokeLaws
mod ResumeRows
