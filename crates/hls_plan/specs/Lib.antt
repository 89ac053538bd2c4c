-- What a planner computes and is allowed to examine: paths over a table and their costs, prices, ranges of steps, and numbers of pairs.
pub mod Paths
pub mod Planned
pub mod PairCounts
pub mod Pricing
pub mod Spans
