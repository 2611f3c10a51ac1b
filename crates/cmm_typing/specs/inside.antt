pub mod Operands
pub mod Prefixes
pub mod Noted
pub mod Loads
