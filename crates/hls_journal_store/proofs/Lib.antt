-- The lemmas on the files of a journal: batches of entries, cuts at a log's end, and what a follower writes.
mod Batches
mod CutBack
mod Followed
