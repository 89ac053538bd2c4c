-- What the loops and functions of this crate compute from boxes, as definitions and loop states: headers of track fragments, sums of columns,
-- summaries of runs and of a `moof`, the layout of a unit, and the tracks of a `moov`.
pub mod Boxes
pub mod Folds
pub mod TrafHeaders
pub mod ColumnSum
pub mod ColumnLoop
pub mod RunPlacement
pub mod SampleSummary
pub mod Runs
pub mod MoofSummary
pub mod UnitLayout
pub mod FirstBoxes
pub mod TrexSteps
pub mod MoovSteps
pub mod RisesBy
pub mod DurationBounds
