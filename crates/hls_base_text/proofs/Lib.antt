-- The lemmas on the text of a base: the value after a word, lines one after another, and the bytes of the renditions as read and as written.
mod Values
mod LineSteps
mod Bytes
mod Written
