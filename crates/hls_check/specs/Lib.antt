-- Definitions of a certificate's check and of its text: what each result means, the first fault,
-- and the stages in which the lines are read.
pub mod Faults
pub mod CheckResults
pub mod Rows
pub mod Laws
pub mod Text
pub mod SpotTexts
pub mod LineTexts
pub mod WrongLines
pub mod Stages
pub mod NextLines
pub mod TextLaws
