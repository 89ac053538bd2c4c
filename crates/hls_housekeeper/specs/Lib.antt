-- The definitions of housekeeping: which events it submits, which trims it holds back, fillers for encoders that are away, late renditions,
-- alerts, gauges, and memory.
pub mod Alerts
pub mod Gauges
pub mod Housekeeping
pub mod Lags
pub mod Backoff
pub mod Memory
pub mod MemoryNeeds
pub mod Coverage
pub mod Away
pub mod TrimHolds
