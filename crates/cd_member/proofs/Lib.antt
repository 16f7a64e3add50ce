pub mod MemberReplies
mod Documents
mod FileRefused
