-- Rates of what is taken, whose turn is next, places for incomplete units, and lanes of renditions, which have all of these.
pub mod Rates
pub mod Turns
pub mod Places
pub mod Shares
pub mod Seats
pub mod Lanes
