pub mod Status
pub mod Faults
pub mod FilesState
pub mod SinkState
pub mod MemorySinkState
pub mod RealFilesState
pub mod MemoryFilesState
