pub mod Changes
pub mod Pieces
pub mod Accesses
pub mod Ways
pub mod Requests
pub mod Laws
