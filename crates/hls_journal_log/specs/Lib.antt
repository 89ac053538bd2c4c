-- The definitions of a journal's log: checksums, records and how they are read, sync points, crashes, room and opening; and the laws.
pub mod Checksum
pub mod Records
pub mod Reading
pub mod SyncPoints
pub mod Crashes
pub mod Laws
pub mod Room
pub mod Opening
