pub mod FindingIsRight
pub mod UnknownParts
pub mod LabelsOfRecords
pub mod RisingLabels
pub mod FieldsInTurn
pub mod FactsKept
pub mod Waiting
