mod FieldLaws
mod TableLaws
mod ReadingRows
mod WholeLaws
pub mod Shared
