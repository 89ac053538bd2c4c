-- The results of the search for places, for the proofs of this crate: positions in a rendition, the decision at each fragment of rendition 0,
-- and the advance of a cursor.
pub mod Searches
pub mod Decisions
pub mod Advances
