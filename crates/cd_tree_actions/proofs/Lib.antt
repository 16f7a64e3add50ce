mod Letters
pub mod SameMakes
