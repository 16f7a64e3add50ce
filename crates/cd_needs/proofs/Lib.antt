pub mod Asked
pub mod LabelsOfTypes
