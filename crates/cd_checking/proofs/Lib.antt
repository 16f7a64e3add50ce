pub mod CheckReplies
pub mod FaultsUntyped
mod Answering
mod Programs
