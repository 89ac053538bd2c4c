-- The lemmas of this crate, on the commands `cut`, `check`, `lint` and `explain`: from what is read to the state, listing or answer that it
-- gives, and from this to the text that is written.
mod AcceptLaws
mod AnswerLaws
mod Begun
mod CheckExamples
mod Fits
mod GatherLaws
mod LintLaws
mod LintLines
mod PrintLaws
mod ReadLaws
mod RunLaws
mod Walked
mod Good
mod Whole
mod Singles
mod ListTexts
mod ListedPlans
mod Colons
