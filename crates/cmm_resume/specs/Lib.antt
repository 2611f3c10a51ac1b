pub mod Answering
pub mod Finding
pub mod Cuts
pub mod Laws
pub mod inside
