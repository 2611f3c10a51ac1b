pub mod Activations
pub mod Walking
pub mod Shown
pub mod Texts
pub mod inside
