pub mod YieldValues
pub mod YieldLaws
pub mod Lines
pub mod Forms
pub mod Asked
pub mod Numbers
pub mod Said
pub mod Blocks
pub mod AnswerLaws
pub mod Shared
mod ClientRows
