-- What streams hold and how failed calls are counted, what a write leaves of a text, and the bytes of a resource as slices.
pub mod Counted
pub mod Failures
pub mod Streams
pub mod Writing
pub mod SentBytes
pub mod Slices
pub mod HeadTexts
