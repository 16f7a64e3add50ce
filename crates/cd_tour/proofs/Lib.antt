mod Shown
mod Whole
