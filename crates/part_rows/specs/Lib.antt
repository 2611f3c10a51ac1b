pub mod Labels
pub mod Layouts
