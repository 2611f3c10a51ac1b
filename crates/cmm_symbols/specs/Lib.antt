pub mod Shown
pub mod Numbering
pub mod Indexed
pub mod Noted
pub mod inside
