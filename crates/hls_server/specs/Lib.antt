-- Bytes that are held back until their state is durable, a worker's connections in the terms of its loop, and how a history grows.
pub mod SendGates
pub mod HandlerConnections
pub mod HistoryGrowth
