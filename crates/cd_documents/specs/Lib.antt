pub mod Document
pub mod Terminal
pub mod Machine
pub mod DocumentFaults
pub mod Examples
pub mod Reading
