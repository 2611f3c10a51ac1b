pub mod Restoring
pub mod CutPaths
