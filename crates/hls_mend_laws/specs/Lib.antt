-- Definitions of mending: fragments as they are written and read, units that are retimed or cut, fillers,
-- and when a channel may jump ahead.
pub mod Bytes
pub mod Fragments
pub mod FragmentsRead
pub mod Retimed
pub mod Cuts
pub mod Fillers
pub mod Treatments
pub mod Jumps
pub mod ReadBack
pub mod Sources
