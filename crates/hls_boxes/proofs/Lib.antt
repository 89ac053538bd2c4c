-- The lemmas of this crate, on the cut of a stream into parts: box headers, the types of a part's boxes, how a cut continues with the next
-- box, the laws and the grammar, and the reader that is fed piece by piece.
mod BoxEnds
mod IntakeLaws
mod ReaderLaws
mod CutLaws
mod Examples
mod GrammarLaws
mod Headers
mod KindTests
mod KindLaws
mod LeftLaws
mod UnendedLaws
mod NextLaws
mod TextLaws
mod Steps
mod Walk
mod WholeLaws
pub mod Callers
