pub mod SubReplies
mod Answering
mod Comparing
