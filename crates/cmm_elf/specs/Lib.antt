pub mod ElfFormat
pub mod ElfFiles
pub mod Laws
pub mod inside
