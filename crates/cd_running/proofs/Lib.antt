pub mod RunReplies
pub mod InputDecided
mod FileRefused
pub mod Characters
mod SafeRuns
mod RunsAnswered
mod DocumentsIn
mod Literals
mod MainFound
mod ArrowsAnswered
pub mod ProgramReads
pub mod ProgramTyped
pub mod DocumentWrites
pub mod DocumentIsInput
pub mod WorkRuns
pub mod QueriesRead
pub mod WorkReplies
mod PiecesSpelled
mod ProgramTokens
mod ProgramRun
mod ProgramSpelled
mod ProgramNamed
mod PatternTests
mod ElementTests
mod WorkTypes
mod WorkStands
mod WorkLists
mod WorkInterface
mod LogTaken
mod EntryWays
mod EntryTaken
mod EntryCaptured
mod DocumentIsValue
mod DocumentBrackets
mod SequenceTexts
mod DocumentCanonical
mod AsciiTexts
mod DocumentAscii
mod EntriesSoFar
mod HeldThings
mod ValueTests
mod MainIsMain
mod EntriesTaken
mod EntriesRun
mod RunFound
mod RunCounted
mod QueriesWritten
mod QueriesSound
mod QueriesSpelled
mod NodesKept
mod QueriesAnswered
