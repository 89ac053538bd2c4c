-- The events of the sample channels, which tests and examples use: init sections and units with given bytes, and the states after them.
pub mod Samples
