-- The lemmas on the turn of a channel: what each pass has seen and submitted, how a turn opens, and when passes meet at one state.
mod Meetings
pub mod Openings
mod Pairs
mod Steps
mod Told
