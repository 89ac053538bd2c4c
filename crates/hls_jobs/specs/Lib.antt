-- The definitions of jobs: the table's rows and what each call does to them, when jobs were last used, plans of programmes, and the texts that
-- are made of them.
pub mod ProgrammeLaws
pub mod Programmes
pub mod ProgrammeTexts
pub mod PlanTurns
pub mod Plans
pub mod Rows
pub mod LastUses
pub mod Model
pub mod CertificateWriter
