-- The definitions of requests for programmes: kept places, the programme between two times, its table, right answers and their playlists, and the
-- resource that a reply's units make up.
pub mod KeptPlaces
pub mod Programmes
pub mod Play
pub mod ReplyUnits
pub mod FaultName
pub mod AcceptedLaw
pub mod Answers
pub mod Requests
pub mod Canonical
pub mod AnswerLaws
pub mod Replies
pub mod Resources
pub mod Jobs
