pub mod Shared
pub mod Alike
pub mod Composing
pub mod Ascending
pub mod Inside
pub mod Firsts
pub mod Mentioned
