-- What a connection has sent if it echoes what it receives, over one exchange and over several.
pub mod Echoes
