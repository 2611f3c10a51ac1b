pub mod Contents
pub mod Plans
pub mod Chain
pub mod Running
pub mod Walks
pub mod Laws
