-- What takes add up to, how long pauses are, and which places are left.
pub mod Takes
pub mod Pauses
pub mod LeftPlaces
