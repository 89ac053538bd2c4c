-- The lemmas of this crate: two or three texts that are appended in turn are appended as one.
mod Appends
