-- The lemmas on what a journal restores: heads of units and their facts, replays of events and of their substitutes, restored states,
-- floors that are reached, and what survives a crash.
pub mod Boxes
pub mod Joined
pub mod Facts
pub mod Heads
pub mod Prefixes
pub mod Outcomes
pub mod Agreement
pub mod Replayed
pub mod States
pub mod Substituted
pub mod Floors
pub mod Continued
pub mod Durable
