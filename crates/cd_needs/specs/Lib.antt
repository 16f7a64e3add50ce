pub mod RecordType
pub mod RecordTypes
pub mod PlainReasons
pub mod Inner
