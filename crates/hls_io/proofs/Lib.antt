-- The lemmas on writing a text in several calls, on the bytes that are handed to a socket, and on places in the slices of a resource.
mod WriteLaws
pub mod Handed
pub mod Places
