-- The lemmas on how steps of a connection compose: what its handler does, and the bytes that its socket reads and writes.
mod Moving
