-- What serves private functions. No public clause speaks of it.
pub mod AsksTaken
