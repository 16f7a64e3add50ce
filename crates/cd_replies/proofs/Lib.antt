mod Positions
pub mod Messages
pub mod FilesEncountered
pub mod TwoFiles
pub mod Replies
pub mod TextReading
pub mod DocumentsRead
pub mod OneFault
pub mod OneRefusal
pub mod OneDocument
