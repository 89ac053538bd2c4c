-- The definition of the text of a base, and of the base that it gives.
pub mod BaseText
