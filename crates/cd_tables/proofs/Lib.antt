mod Searching
mod Comparing
pub mod Characters
