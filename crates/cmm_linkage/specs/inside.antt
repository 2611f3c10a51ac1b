pub mod Counted
pub mod Linkages
