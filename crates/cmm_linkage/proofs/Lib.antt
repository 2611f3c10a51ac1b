pub mod Registering
pub mod Gathering
pub mod Shared
