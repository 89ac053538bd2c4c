-- For the proofs of this crate; no public clause cites it.
-- Renditions whose names can be printed.
use Rattle.hls_core_laws.specs.Config.{IsName}
use Rattle.hls_core_laws.specs.declared.rendition.Rendition.{Rendition}

-- a rendition's name can be printed
abbrev pub IsNamed : Rendition → Type 0
IsNamed rendition = IsName rendition.name
