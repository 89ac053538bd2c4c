-- The lemmas of this crate: rows of a table of jobs as they are added, found and removed, plans of programmes that are shared, and the texts of
-- playlists and certificates.
mod ByIds
mod Valid
mod Calls
mod Uses
mod Unused
mod Keeps
mod Lists
mod ListTexts
mod KeptTexts
mod PlanCalls
mod FairTurns
mod CertificateTexts
pub mod PathTexts
mod ProgrammesStay
mod ListsStay
