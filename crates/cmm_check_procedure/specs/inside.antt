pub mod Forms
pub mod Parted
pub mod Sides
pub mod Formals
pub mod Earlier
pub mod Arms
pub mod Falling
pub mod Hosts
