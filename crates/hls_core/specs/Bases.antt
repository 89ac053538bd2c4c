-- A base by its parts.
use Rattle.std.specs.Prelude.{ℕ, Bool, false, List, replicate}
use Rattle.hls_core_laws.specs.Base.{BaseData, IsBase}
use Rattle.hls_core_laws.specs.Config.{ConfigData}

-- the base with these parts
abbrev pub base_from : List ℕ → ℕ → ℕ → Bool → List ℕ → ℕ → BaseData
base_from run segments marks marked bytes version =
    record { run = run; segments = segments; marks = marks; marked = marked; bytes = bytes; version = version }

-- the base of a new channel: nothing precedes, and the run has this name
abbrev pub base_of_run : List ℕ → BaseData
base_of_run run = base_from run 0 0 false (replicate 16 0) 0

-- a configuration with this base
abbrev pub config_after : ConfigData → BaseData → ConfigData
config_after c base = record { target = c.target; preferred = c.preferred; renditions = c.renditions; epoch = c.epoch; base = base }

-- a base that can't precede
abbrev pub IsNoBase : BaseData → Type 0
IsNoBase base = IsBase base → ⊥
