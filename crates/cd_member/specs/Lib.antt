pub mod MemberAnswer
