pub mod Appending
pub mod Going
pub mod InOrder
pub mod Places
pub mod Reading
pub mod Rewriting
pub mod Pieces
pub mod Shared
