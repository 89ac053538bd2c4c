-- The lemmas of this crate: the commands and options that `clap` parses, how it accepts or refuses arguments, and the renditions in them, one
-- after the other.
mod Building
mod Charges
mod Examples
mod OptionWords
mod Says
mod Words
