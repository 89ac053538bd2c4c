-- The lemma of this crate: the follower of a journal may go to a thread of its own.
mod Sending
