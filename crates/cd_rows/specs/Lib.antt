pub mod RecordRows
pub mod Inner
