pub mod CommandLine
pub mod Showing
pub mod Versions
