-- Which cuts of a live line a new log may begin at, the channel that begins there, its programmes, and the laws of both.
pub mod Cuts
pub mod Renewals
pub mod Programmes
pub mod Laws
