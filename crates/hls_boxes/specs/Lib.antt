-- The definition of the cut of a stream of boxes into init sections and units, its second definition as a grammar, the laws of both,
-- and the state of a reader that is fed piece by piece.
pub mod Feed
pub mod Reader
pub mod Kinds
pub mod Boxes
pub mod FaultName
pub mod Parts
pub mod Grammar
pub mod Laws
