-- The definitions of records: the bodies that are made, the events that are recalled, the record of a channel, faults, stored pieces,
-- and records of no event; and the laws.
pub mod Bodies
pub mod Recalling
pub mod Channels
pub mod Heads
pub mod Faults
pub mod Pieces
pub mod Asides
pub mod Laws
