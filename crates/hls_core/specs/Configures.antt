-- What makes a configuration valid, or its first fault.
use Rattle.std.specs.Prelude.{◌≡◌, ◌⊎◌, ℕ, ℤ, ◌*◌, ◌<◌, List, Option, None, Result, Ok, Err}
use Rattle.hls_core_laws.specs.declared.rendition.Rendition.{Rendition}
use Rattle.hls_core_laws.specs.Base.{no_base}
use Rattle.hls_core_laws.specs.Config.{ConfigData, IsTarget, IsPreferred, AreRenditions, IsEpoch, IsConfig}
use Rattle.hls_core.specs.declared.config.Config.{Config}
use Rattle.hls_core.specs.declared.config.ConfigFault.{ConfigFault}
use Rattle.hls_core.specs.declared.config.ConfigFault.TheVariants.{BadTarget, BadPreferred, BadRendition, BadEpoch, Memory}
use Rattle.hls_core.specs.FirstBad.{IsFirstBadRendition}
use Rattle.hls_check_tables.specs.Tables.{target_limit}

-- the configuration with these parts, which nothing precedes
abbrev pub configured_from : ℕ → ℕ → List Rendition → Option ℤ → ConfigData
configured_from target preferred rs epoch = record { target = target; preferred = preferred; renditions = rs; epoch = epoch; base = no_base }

-- the configuration with these parts and without an epoch
abbrev pub configured : ℕ → ℕ → List Rendition → ConfigData
configured target preferred rs = configured_from target preferred rs None

-- the result for a configuration with these parts: valid, or its first fault in this order; running out of memory comes last
abbrev pub Configures : ℕ → ℕ → List Rendition → Option ℤ → Result Config ConfigFault → Type 0
Configures target preferred rs epoch (Ok c) = (c ≡ configured_from target preferred rs epoch) × IsConfig (configured_from target preferred rs epoch)
Configures target preferred rs epoch (Err BadTarget) = (target ≡ 0) ⊎ (target_limit < target)
Configures target preferred rs epoch (Err BadPreferred) = IsTarget target × ((preferred ≡ 0) ⊎ (target * 1000000 < preferred))
Configures target preferred rs epoch (Err (BadRendition n)) = IsTarget target × IsPreferred target preferred × IsFirstBadRendition rs n
Configures target preferred rs epoch (Err BadEpoch) =
    IsTarget target × IsPreferred target preferred × AreRenditions rs × (IsEpoch epoch → ⊥)
Configures target preferred rs epoch (Err Memory) = IsConfig (configured_from target preferred rs epoch)
