-- The lemmas on HTTP/1.1 messages: heads, chunked bodies, fields and their values, and the buffers that hold input and output.
mod BodySteps
mod Buffers
mod Digits
mod HeadLaws
mod SendLaws
mod Values
pub mod Callers
mod BodyLaws
mod Examples
mod RequestLaws
mod StayLaws
