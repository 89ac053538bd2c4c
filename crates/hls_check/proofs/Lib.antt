-- Lemmas on a certificate's check and its text: steps that respect the prices, searches by blocks of rows,
-- and readers, scans and writers of the lines.
mod PlanLists
mod GoodAnswers
pub mod OneAnswer
mod ClosedPrices
mod Blocks
mod FirstBlocks
mod Seen
mod Cited
mod Spellings
mod Nexts
mod Stagings
mod Starts
mod Sames
pub mod Wrongs
mod LineKinds
mod PlaceTexts
mod Claims
pub mod Written
mod Scans
