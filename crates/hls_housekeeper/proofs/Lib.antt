-- The lemmas of this crate: sequences of the housekeeper's actions, and the fillers for a rendition whose encoder is away.
mod Keeping
mod FillLaws
