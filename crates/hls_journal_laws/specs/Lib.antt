-- The definitions of what a journal's records mean: heads of units, replays of events, substitutes for trimmed units, bodies, restored states,
-- floors, players across a restart, and crashes; and the laws.
pub mod Heads
pub mod Replays
pub mod Substitutes
pub mod Bodies
pub mod Restored
pub mod Written
pub mod Floors
pub mod Laws
pub mod Players
pub mod Durable
