-- The bytes of the media that tests send: boxes, an init section of one track, and a unit of one sample.
pub mod Boxes
pub mod Init
pub mod UnitBytes
