mod FieldLaws
mod ElfLaws
mod LengthLaws
mod ReadLaws
mod WritingLaws
mod ElfRows
