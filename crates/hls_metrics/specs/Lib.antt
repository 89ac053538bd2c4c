-- The text of the metrics page: lines of a metric and its values, and the metrics of the channel, of its renditions, of requests and refusals,
-- and of the process.
pub mod Lines
pub mod Measurements
pub mod Metrics
pub mod Refusals
