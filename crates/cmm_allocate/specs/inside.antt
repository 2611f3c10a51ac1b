pub mod Laying
pub mod Classing
pub mod Colouring
