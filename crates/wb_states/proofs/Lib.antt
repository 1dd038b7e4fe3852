mod AgainLemmas
mod AnswerLemmas
pub mod ClosedLemmas
mod EndLemmas
mod FollowLemmas
mod JoinLemmas
mod Lists
mod ManyLemmas
mod MeetingLemmas
pub mod NoLater
pub mod PastNumbers
mod Results
mod RunLemmas
mod StateLemmas
mod GrowLemmas
