-- The lemmas of this crate: rates measured over the live line, rates and tracks of renditions, their summaries, and lines that are written one by
-- one.
pub mod LineLaws
pub mod RateLaws
pub mod SummaryLaws
pub mod TrackLaws
pub mod UnitLaws
