-- Lemmas on the stored live line: it stays sound when a segment is added or removed, and its sums agree with its segments.
mod Cited
mod Beside
mod Moves
mod Keeps
